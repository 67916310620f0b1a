use Rattle.rbac_rules.proofs.AuthorizationLemmas.{is_authorized_iff}
use Rattle.rbac_rules.proofs.authorization.a_test_tells_authorization.Goals as goal

pub returns : goal.returns
returns c = is_authorized_iff
