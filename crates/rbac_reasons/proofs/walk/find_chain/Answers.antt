use Rattle.std.proofs.Common.{sym, ap, ◌∙◌, ◌≡◌, reverse, Some, subst, true, arith}
use Rattle.sorted_keys.specs.Keys.{has}
use Rattle.rbac_terms.specs.Name.{name_cmp}
use Rattle.rbac_reasons.specs.Walk.{Walk, IsTrail, found_by, next_of}
use Rattle.rbac_reasons.proofs.WalkLemmas.{was_pending, walk_goes_on, walk_shrinks, walk_ends}
use Rattle.rbac_reasons.proofs.walk.find_chain.Goals as goal

pub returns-then-contains-clause-found : goal.returns-then-contains-clause-found
returns-then-contains-clause-found c =
    let starts = c.args.starts.now in
    let goals = c.args.goals.now in
    let declared = c.args.declared.now in
    let w = c.loop-role.walk in
    let role = c.in-Some.role in
    let h = c.loop-role.invariant in
    let taken : next_of w ≡ Some role = sym c.in-Some.ensures.next in
    let trail_is : reverse c.walk.inside.pairs.items ≡ w.trail = ap (λ (x : Walk). x.trail) (c.walk.view_is ∙ c.next.ensures.rest) in
    let there = sym (h.members role) ∙ h.pending role (was_pending starts goals declared role w taken) in
    let leads = c.in_ok-chain_to.ensures starts declared (subst (IsTrail starts declared) (sym trail_is) h.trail)
    (subst (λ t. has name_cmp role (found_by starts t) ≡ true) (sym trail_is) there) in
    record { first = leads.first; path = leads.path; last = grind (arith, leads.last_is, c.contains.ensures) }

pub loop-role-smaller : goal.loop-role-smaller
loop-role-smaller c =
    rw (c.in_ok-visit_all.ensures, c.beginning_with.ensures, c.next.ensures.rest) (walk_shrinks c.args.starts.now c.args.goals.now c.args.declared.now c.in-Some.role c.loop-role.walk (sym c.in-Some.ensures.next))

pub loop-role-preserved : goal.loop-role-preserved
loop-role-preserved c =
    rw (c.in_ok-visit_all.ensures, c.beginning_with.ensures, c.next.ensures.rest)
    (walk_goes_on c.args.starts.now c.args.goals.now c.args.declared.now c.in-Some.role c.loop-role.walk (sym c.in-Some.ensures.next) (sym c.contains.ensures ∙ c.if-contains.false) c.loop-role.invariant)

pub returns-clause-none : goal.returns-clause-none
returns-clause-none c = λ _. walk_ends c.args.starts.now c.args.goals.now c.args.declared.now c.loop-role.walk (sym c.in_default.ensures.next) c.loop-role.invariant
