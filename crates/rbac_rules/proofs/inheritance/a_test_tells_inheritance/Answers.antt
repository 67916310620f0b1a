use Rattle.rbac_rules.proofs.InheritanceLemmas.{inherits_iff}
use Rattle.rbac_rules.proofs.inheritance.a_test_tells_inheritance.Goals as goal

pub returns : goal.returns
returns c = inherits_iff
