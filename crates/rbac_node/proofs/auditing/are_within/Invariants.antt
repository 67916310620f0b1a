use Rattle.std.proofs.Common.{◌≡◌, ◌<◌, ℕ, true, length}
use Rattle.rbac_node.specs.Node.{node_at, is_within}
use Rattle.rbac_node.proofs.auditing.are_within.Given as goal

abbrev pub invariant-loop-node : goal.invariant-loop-node
invariant-loop-node g l = (i j : ℕ) → i < l.node-index → j < length l.nodes → is_within (node_at l.nodes i) (node_at l.nodes j) ≡ true
