use Rattle.rbac_decide.proofs.HindranceLemmas.{denies_as}
use Rattle.rbac_decide.proofs.policy.Policy.deny_cardinality.Goals as goal

pub returns : goal.returns
returns c = denies_as _ _ _ _ c.deny_for.result c.violation.ensures (c.deny_for.ensures _ _ c.cardinality_breach.ensures)
