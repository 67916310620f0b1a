use Rattle.std.proofs.Common.{◌≡◌, length, map, take}
use Rattle.rbac_node.proofs.auditing.delivered.Given as goal

abbrev pub invariant-loop-node : goal.invariant-loop-node
invariant-loop-node g l = l.counts.items ≡ map (λ n. length n.member.history) (take l.node-index l.nodes)
