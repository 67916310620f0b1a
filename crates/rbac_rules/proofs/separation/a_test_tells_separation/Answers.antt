use Rattle.rbac_rules.proofs.SeparationLaws.{static_iff, dynamic_iff}
use Rattle.rbac_rules.proofs.separation.a_test_tells_separation.Goals as goal

pub returns : goal.returns
returns c = record { of_users = static_iff; of_sessions = dynamic_iff }
