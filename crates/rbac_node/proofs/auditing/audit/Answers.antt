use Rattle.std.proofs.Common.{ℕ, ◌≡◌, ◌<◌, List, length, map, ap, subst, ◌∙◌, sym, rules}
use Rattle.std.proofs.lemmas.Simd.{map-map}
use Rattle.rbac_words.specs.Keeping.Member.{Member}
use Rattle.rbac_words.specs.Keeping.Members.{AreMembers}
use Rattle.rbac_order.proofs.GroupLemmas.{right}
use Rattle.rbac_node.specs.Node.{NodeState, IsNode, AreNodes, members_of, node_at}
use Rattle.rbac_node.proofs.AuditLemmas.{are_members}
use Rattle.rbac_node.proofs.auditing.audit.Goals as goal

members : (g : _) (c : goal.In-Ok g) → AreMembers g.G.GroupName.group g.G.GroupName.vocabulary (members_of c.args.nodes.now)
members g c =
    let nodes = c.args.nodes.now in
    let same = c.compare_all.ensures.unchanged in
    let are : AreNodes g.G.GroupName.group nodes = search rules in
    are_members g.G.GroupName.group g.G.GroupName.vocabulary nodes are
    (subst (λ (ns : List NodeState). (i : ℕ) → i < length ns → IsNode (node_at ns i)) same c.invariants_of.ensures.kept)
    (subst (λ (ns : List NodeState). (i : ℕ) → i < length ns → (node_at ns i).member.group ≡ g.G.GroupName.group) same c.invariants_of.ensures.group)
    (subst (λ (ns : List NodeState). (i : ℕ) → i < length ns → (node_at ns i).member.vocabulary ≡ g.G.GroupName.vocabulary) same c.invariants_of.ensures.vocabulary)
    c.compare_all.ensures.read

pub returns-clause-members : goal.returns-clause-members
returns-clause-members g c = members g c

pub returns-clause-right : goal.returns-clause-right
returns-clause-right g c = right g.G.GroupName.group g.G.GroupName.vocabulary (members_of c.args.nodes.now) (members g c)

pub returns-clause-delivered : goal.returns-clause-delivered
returns-clause-delivered g c =
    c.in-Ok.ensures
    ∙ ap (map (λ (n : NodeState). length n.member.history)) c.compare_all.ensures.unchanged
    ∙ sym (map-map (λ (v : Member). length v.history) (λ (n : NodeState). n.member) c.args.nodes.now)
