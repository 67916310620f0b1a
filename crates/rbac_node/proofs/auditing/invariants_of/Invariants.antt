use Rattle.std.proofs.Common.{◌≡◌, ◌<◌, ℕ}
use Rattle.rbac_node.specs.Node.{IsNode, node_at}
use Rattle.rbac_node.proofs.auditing.invariants_of.Given as goal

abbrev pub invariant-loop-node : goal.invariant-loop-node
invariant-loop-node g l = record {
  kept : (i : ℕ) → i < l.node-index → IsNode (node_at l.nodes i);
  group : (i : ℕ) → i < l.node-index → (node_at l.nodes i).member.group ≡ g.G.GroupName.group;
  vocabulary : (i : ℕ) → i < l.node-index → (node_at l.nodes i).member.vocabulary ≡ g.G.GroupName.vocabulary;
}
