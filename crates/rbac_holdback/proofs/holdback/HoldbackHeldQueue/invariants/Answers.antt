use Rattle.std.proofs.Common.{subst}
use Rattle.rbac_holdback.specs.Holdback.{IsHoldback}
use Rattle.rbac_holdback.proofs.QueueLemmas.{kept_content}
use Rattle.rbac_holdback.proofs.holdback.HoldbackHeldQueue.invariants.Goals as goal

pub returns : goal.returns
returns c = subst IsHoldback c.self.view_is (kept_content _ _ _ c.self.invariant)
