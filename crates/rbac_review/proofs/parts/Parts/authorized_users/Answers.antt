use Rattle.std.proofs.Common.{◌∙◌, ap}
use Rattle.std.specs.List.{filter}
use Rattle.rbac_terms.specs.Inheritance.{seniors}
use Rattle.rbac_terms.specs.Authorization.{is_authorized}
use Rattle.rbac_review.specs.Among.{is_assigned_one}
use Rattle.rbac_review.specs.Parts.{state_of}
use Rattle.rbac_review.proofs.ReviewLemmas.{if_same, assigned_a_senior}
use Rattle.sorted_keys.proofs.Lists.{filter-same}
use Rattle.rbac_review.proofs.parts.Parts.authorized_users.Goals as goal

pub returns : goal.returns
returns c =
    let s = state_of c.args.self.now in
    let role = c.args.role.now in
    let told = filter-same (is_assigned_one (seniors s.roles s.declared role) s.assigned) (λ user. is_authorized s user role) (assigned_a_senior s role) s.users in
    if_same (ap (λ names. filter (is_assigned_one names s.assigned) s.users) c.in_ok-seniors.ensures ∙ told) c.users_assigned_one.result c.users_assigned_one.ensures
