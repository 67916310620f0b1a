use Rattle.std.proofs.Common.{◌≡◌, ◌<◌, ℕ, true}
use Rattle.rbac_node.specs.Node.{node_at, is_within}
use Rattle.rbac_node.proofs.auditing.is_within_each.Given as goal

abbrev pub invariant-loop-other : goal.invariant-loop-other
invariant-loop-other g l = (j : ℕ) → j < l.other-index → is_within l.node (node_at l.nodes j) ≡ true
