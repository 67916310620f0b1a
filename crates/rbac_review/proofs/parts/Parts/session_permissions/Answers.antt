use Rattle.rbac_terms.specs.Reviews.{active_roles}
use Rattle.rbac_review.specs.Parts.{state_of}
use Rattle.rbac_review.proofs.ReviewLemmas.{if_same, roles_listed}
use Rattle.rbac_review.proofs.parts.Parts.session_permissions.Goals as goal

pub returns : goal.returns
returns c =
    let s = state_of c.args.self.now in
    if_same (roles_listed s (active_roles s c.args.session.now) c.in_ok-roles.roles c.in_ok-roles.ensures) c.granted_to_one.result c.granted_to_one.ensures
