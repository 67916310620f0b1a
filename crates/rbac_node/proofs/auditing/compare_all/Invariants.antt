use Rattle.std.proofs.Common.{◌≡◌, ◌≢◌, ◌<◌, ℕ, length}
use Rattle.rbac_words.specs.Keeping.Members.{HasRead}
use Rattle.rbac_node.specs.Node.{node_at}
use Rattle.rbac_node.proofs.auditing.compare_all.Given as goal

abbrev pub invariant-loop-receiver : goal.invariant-loop-receiver
invariant-loop-receiver g l = record {
  same : l.nodes ≡ l.fn.nodes;
  read : (i j : ℕ) → i < l.receiver → j < length l.fn.nodes → i ≢ j → HasRead (node_at l.fn.nodes i).member (node_at l.fn.nodes j).member;
}
