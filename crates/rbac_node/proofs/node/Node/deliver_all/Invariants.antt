use Rattle.std.proofs.Common.{length}
use Rattle.rbac_node.proofs.DeliveryLemmas.{AreDelivered}
use Rattle.rbac_node.proofs.node.Node.deliver_all.Given as goal

abbrev pub invariant-loop : goal.invariant-loop
invariant-loop g l = AreDelivered l.fn.self l.self

abbrev pub decreases-loop : goal.decreases-loop
decreases-loop g l = length l.self.member.held
