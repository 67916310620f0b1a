use Rattle.rbac_review.specs.Parts.{state_of}
use Rattle.rbac_review.proofs.ReviewLemmas.{if_same, user_listed}
use Rattle.rbac_review.proofs.parts.Parts.user_permissions.Goals as goal

pub returns : goal.returns
returns c = if_same (user_listed (state_of c.args.self.now) c.args.user.now c.in_ok-roles.roles c.in_ok-roles.ensures) c.granted_to_one.result c.granted_to_one.ensures
