use Rattle.std.proofs.Common.{◌≡◌, ◌+◌, ◌<◌, ℕ}
use Rattle.rbac_node.specs.Node.{node_at}
use Rattle.rbac_node.proofs.auditing.are_numbered.Given as goal

abbrev pub invariant-loop-place : goal.invariant-loop-place
invariant-loop-place g l = (i : ℕ) → i < l.place → (node_at l.nodes i).member.number ≡ i + 1
