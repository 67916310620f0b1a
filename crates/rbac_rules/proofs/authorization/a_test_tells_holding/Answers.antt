use Rattle.rbac_rules.proofs.AuthorizationLemmas.{holds_iff}
use Rattle.rbac_rules.proofs.authorization.a_test_tells_holding.Goals as goal

pub returns : goal.returns
returns c = holds_iff
