use Rattle.std.proofs.Common.{◌≡◌, ◌∙◌, ◌&&◌, ◌||◌, Bool, false, IfOk, ap, sym, subst, arith}
use Rattle.rbac_decide.proofs.Common.{eq_by_cmp, has, name_cmp, Separation, Static, of_set, IsPlanOf}
use Rattle.rbac_decide.proofs.AffectedLemmas.{plan_of}
use Rattle.rbac_decide.proofs.counting.affected.plan_set.Goals as goal

alone : (b : Bool) → (b || false) ≡ b
alone b = grind arith

pub returns-in-Static-clause-planned : goal.returns-in-Static-clause-planned
returns-in-Static-clause-planned c =
    let t = c.args.tables.now in
    let set = c.args.set.now in
    subst (λ (kind : Separation). IfOk c.plan.result (IsPlanOf (of_set kind set t) c.plan.new.self)) (sym c.in-Static.is)
    (plan_of c.plan.result c.from_ref.result.now c.users.result.now (of_set Static set t) c.plan.new.self c.plan.ensures.sets c.plan.ensures.users c.plan.ensures.placed
    (λ s u. (λ i. has name_cmp s (c.from_ref.ensures.value i) && has name_cmp u (c.users.ensures i)) ∙ ap (λ b. b && has name_cmp u t.sets.content.users) (alone (eq_by_cmp name_cmp s set))))
