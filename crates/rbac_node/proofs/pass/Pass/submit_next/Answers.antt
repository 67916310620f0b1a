use Rattle.std.proofs.Common.{◌<◌, arith}
use Rattle.rbac_node.proofs.SerialLemmas.{serial_below}
use Rattle.rbac_node.proofs.pass.Pass.submit_next.Goals as goal

pub overflow_add-self : goal.overflow_add-self
overflow_add-self g c =
    let below : c.self.inside.next < 4194304 = serial_below c.args.node.now.member c.self.inside.caller c.self.inside.next 1 c.invariants.ensures.kept.member c.in_ok-call.ensures.accepted in omega arith
