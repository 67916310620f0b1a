use Rattle.rbac_review.specs.Parts.{state_of}
use Rattle.rbac_review.proofs.ReviewLemmas.{if_same, role_listed}
use Rattle.rbac_review.proofs.parts.Parts.role_permissions.Goals as goal

pub returns : goal.returns
returns c = if_same (role_listed (state_of c.args.self.now) c.args.role.now c.in_ok-juniors.juniors c.in_ok-juniors.ensures) c.granted_to_one.result c.granted_to_one.ensures
