use Rattle.std.proofs.Common.{◌≡◌, ◌≢◌, ◌<◌, ℕ}
use Rattle.rbac_words.specs.Keeping.Members.{HasRead}
use Rattle.rbac_node.specs.Node.{node_at}
use Rattle.rbac_node.proofs.auditing.compare_with_each.Given as goal

abbrev pub invariant-loop-sender : goal.invariant-loop-sender
invariant-loop-sender g l = record {
  same : l.nodes ≡ l.fn.nodes;
  read : (j : ℕ) → j < l.sender → l.receiver ≢ j → HasRead (node_at l.fn.nodes l.receiver).member (node_at l.fn.nodes j).member;
}
