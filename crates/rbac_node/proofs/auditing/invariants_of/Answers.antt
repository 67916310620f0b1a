use Rattle.std.proofs.Common.{◌≡◌, subst, arith}
use borrow.Author.Count.{below_more}
use Rattle.rbac_node.specs.Node.{NodeState, IsNode, node_at}
use Rattle.rbac_node.proofs.AuditLemmas.{this_node}
use Rattle.rbac_node.proofs.auditing.invariants_of.Goals as goal

pub loop-node-preserved : goal.loop-node-preserved
loop-node-preserved g c =
    let nodes = c.args.nodes.now in
    let at = c.loop-node.node-index in
    let here : c.node-item.result ≡ node_at nodes at = this_node nodes at c.node-item.result c.node-item.is (omega arith) in record {
      kept = below_more (λ i. IsNode (node_at nodes i)) at c.loop-node.invariant.kept (subst IsNode here c.invariants.ensures.kept);
      group = below_more (λ i. (node_at nodes i).member.group ≡ g.G.GroupName.group) at c.loop-node.invariant.group (subst (λ (n : NodeState). n.member.group ≡ g.G.GroupName.group) here c.invariants.ensures.group);
      vocabulary = below_more (λ i. (node_at nodes i).member.vocabulary ≡ g.G.GroupName.vocabulary) at c.loop-node.invariant.vocabulary
          (subst (λ (n : NodeState). n.member.vocabulary ≡ g.G.GroupName.vocabulary) here c.invariants.ensures.vocabulary);
    }
