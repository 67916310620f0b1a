use Rattle.std.proofs.Common.{sym, refl, [], subst, ◌∙◌}
use Rattle.rbac_reasons.specs.Path.{AreReached}
use Rattle.rbac_reasons.specs.Walk.{Walk}
use Rattle.rbac_reasons.proofs.WalkLemmas.{walk_goes_on, walk_shrinks, walk_reaches}
use Rattle.rbac_reasons.proofs.walk.reached.Goals as goal

pub loop-role-smaller : goal.loop-role-smaller
loop-role-smaller c =
    rw (c.in_ok-visit_all.ensures, c.beginning_with.ensures, c.next.ensures.rest) (walk_shrinks c.args.starts.now [] c.args.declared.now c.in-Some.role c.loop-role.walk (sym c.in-Some.ensures.next))

pub loop-role-preserved : goal.loop-role-preserved
loop-role-preserved c =
    rw (c.in_ok-visit_all.ensures, c.beginning_with.ensures, c.next.ensures.rest)
    (walk_goes_on c.args.starts.now [] c.args.declared.now c.in-Some.role c.loop-role.walk (sym c.in-Some.ensures.next) refl c.loop-role.invariant)

pub returns : goal.returns
returns c =
    subst (λ (w : Walk). AreReached c.args.declared.now c.args.starts.now w.found) (sym (c.walk-2.view_is ∙ c.next.ensures.rest))
    (walk_reaches c.args.starts.now [] c.args.declared.now c.loop-role.walk (sym c.in_default.ensures.next) c.loop-role.invariant)
