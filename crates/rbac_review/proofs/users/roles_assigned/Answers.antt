use Rattle.std.proofs.Common.{◌≡◌, ◌||◌, ◌&&◌, ◌∙◌, ap, false, take}
use Rattle.std.specs.List.{list_any, filter}
use Rattle.std.specs.Ordering.{eq_by_cmp}
use Rattle.std.proofs.lemmas.List.Kept.{IsStrictlySortedBy-filter}
use Rattle.sorted_keys.specs.Keys.{has}
use Rattle.sorted_keys.proofs.Members.{same_keys}
use Rattle.rbac_terms.specs.Name.{Name, name_cmp, pair_cmp}
use Rattle.rbac_terms.specs.Relations.{roles_of}
use Rattle.rbac_terms.proofs.NameLemmas.{names_total, names_exact}
use Rattle.rbac_hierarchy.proofs.LoopLemmas.{any_one_more, taken_whole}
use Rattle.rbac_review.proofs.ReviewLemmas.{among_assigned}
use Rattle.rbac_review.proofs.users.roles_assigned.Goals as goal

pub loop-pair-preserved : goal.loop-pair-preserved
loop-pair-preserved c = λ r.
    let roles = c.args.hierarchy.now.content.roles in
    let among = λ (pair : Name × Name). eq_by_cmp name_cmp r pair.1 && has name_cmp pair.1 roles in
    c.in_ok-roles.ensures r
    ∙ ap (λ t. t || among c.pair-item.result) (c.loop-pair.invariant r)
    ∙ any_one_more false among c.assignments_of-assignments.result.now c.loop-pair.pair-index c.pair-item.result c.loop-pair-test.true c.pair-item.is

pub returns : goal.returns
returns c =
    let roles = c.args.hierarchy.now.content.roles in
    let user = c.args.user.now in
    let assigned = c.args.sets.now.content.assigned in
    same_keys names_exact names_total c.loop-pair.roles (roles_of user roles assigned) c.names-in_order.ensures.in_order
    (IsStrictlySortedBy-filter name_cmp (λ r. has pair_cmp (user, r) assigned) roles c.invariants.ensures.in_order)
    (λ q.
    let among = λ (pair : Name × Name). eq_by_cmp name_cmp q pair.1 && has name_cmp pair.1 roles in
    c.loop-pair.invariant q
    ∙ ap (list_any among) (taken_whole c.assignments_of-assignments.result.now c.loop-pair.pair-index c.loop-pair-test.false ∙ c.assignments_of-assignments.ensures)
    ∙ among_assigned user q roles assigned)
