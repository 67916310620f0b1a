use Rattle.std.proofs.Common.{◌||◌, ◌∙◌, ap}
use Rattle.std.specs.List.{list_any}
use Rattle.sorted_keys.specs.Keys.{has}
use Rattle.rbac_terms.specs.Name.{Name, name_cmp}
use Rattle.rbac_terms.specs.Relations.{begins_with}
use Rattle.rbac_terms.specs.Authorization.{inherits_in}
use Rattle.rbac_review.specs.Parts.{state_of}
use Rattle.rbac_review.proofs.ReviewLemmas.{any-filter, are_authorized}
use Rattle.rbac_review.proofs.parts.Parts.authorized_roles.Goals as goal

pub returns : goal.returns
returns c =
    let s = state_of c.args.self.now in
    are_authorized s c.args.user.now c.in_ok-roles.roles c.names-in_order.ensures.in_order c.invariants.ensures.in_order
    (λ r.
    let below = λ (pair : Name × Name). inherits_in s pair.1 r in
    c.in_ok-roles.ensures r
    ∙ ap (λ t. has name_cmp r t || list_any below c.assignments_of-assignments.result.now) c.new-none.ensures
    ∙ ap (list_any below) c.assignments_of-assignments.ensures
    ∙ any-filter (begins_with c.args.user.now) below s.assigned)
