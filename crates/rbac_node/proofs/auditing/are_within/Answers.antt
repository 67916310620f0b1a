use Rattle.std.proofs.Common.{◌≡◌, ◌<◌, true, length, IsTrue, sym, subst, arith}
use Rattle.rbac_node.specs.Node.{NodeState, node_at, is_within}
use Rattle.rbac_node.proofs.AuditLemmas.{this_node}
use Rattle.rbac_node.proofs.auditing.are_within.Goals as goal

pub returns-then-not-is_within_each : goal.returns-then-not-is_within_each
returns-then-not-is_within_each g c =
    let nodes = c.args.nodes.now in
    let at = c.loop-node.node-index in
    let inside : at < length nodes = omega arith in
    let here : c.node-item.result ≡ node_at nodes at = this_node nodes at c.node-item.result c.node-item.is inside in (
      λ no. absurd (cc no),
      λ all.
          let each : IsTrue c.is_within_each.result = c.is_within_each.ensures.1 (λ j within. subst (λ (n : NodeState). is_within n (node_at nodes j) ≡ true) (sym here) (all at j inside within)) in
          subst IsTrue c.if-not-is_within_each.true each,
    )
