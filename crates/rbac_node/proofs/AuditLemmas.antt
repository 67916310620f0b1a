-- The nodes of a group, and their members.
use Rattle.std.proofs.Common.{ℕ, ◌≡◌, ◌≢◌, ◌<◌, ◌+◌, List, length, get_or, sym, subst, ◌∙◌, arith}
use Rattle.std.proofs.Math.ListN.{get_or-map}
use Rattle.std.proofs.lemmas.List.{length-map, get_or_default}
use Rattle.rbac_terms.specs.Vocabulary.{Vocabulary}
use Rattle.rbac_words.specs.Group.{Group}
use Rattle.rbac_words.specs.Keeping.Member.{Member, IsMember}
use Rattle.rbac_words.specs.Keeping.Members.{AreMembers, HasRead, member_at}
use Rattle.rbac_node.specs.Node.{NodeState, IsNode, AreNodes, members_of, no_node, node_at}

-- the node that a loop has come to
pub this_node : (nodes : List NodeState) (i : ℕ) (n : NodeState) → n ≡ get_or nodes i n → i < length nodes → n ≡ node_at nodes i
this_node nodes i n is within = is ∙ get_or_default nodes i n no_node within

-- the nodes of a group, each of which has read each other one, have the members of that group
pub are_members : (group : Group) (vocabulary : Vocabulary) (nodes : List NodeState) → AreNodes group nodes
    → ((i : ℕ) → i < length nodes → IsNode (node_at nodes i))
    → ((i : ℕ) → i < length nodes → (node_at nodes i).member.group ≡ group)
    → ((i : ℕ) → i < length nodes → (node_at nodes i).member.vocabulary ≡ vocabulary)
    → ((i j : ℕ) → i < length nodes → j < length nodes → i ≢ j → HasRead (node_at nodes i).member (node_at nodes j).member)
    → AreMembers group vocabulary (members_of nodes)
are_members group vocabulary nodes are kept groups vocabularies read = record {
  count = long ∙ are.count;
  numbered = each (λ i (v : Member). v.number ≡ i + 1) are.numbered;
  same_group = each (λ i (v : Member). v.group ≡ group) groups;
  same_vocabulary = each (λ i (v : Member). v.vocabulary ≡ vocabulary) vocabularies;
  kept = each (λ i v. IsMember v) (λ i within. (kept i within).member);
  read = λ i j within also apart. subst (HasRead (member_at (members_of nodes) i)) (at j) (subst (λ v. HasRead v (node_at nodes j).member) (at i) (read i j (inside i within) (inside j also) apart));
}
  where
    long : length (members_of nodes) ≡ length nodes
    long = length-map nodes (λ (n : NodeState). n.member)

    inside : (i : ℕ) → i < length (members_of nodes) → i < length nodes
    inside i within = omega (arith, long)

    at : (i : ℕ) → (node_at nodes i).member ≡ member_at (members_of nodes) i
    at i = sym (get_or-map (λ (n : NodeState). n.member) nodes i no_node)

    each : (P : ℕ → Member → Type 0) → ((i : ℕ) → i < length nodes → P i (node_at nodes i).member) → (i : ℕ) → i < length (members_of nodes) → P i (member_at (members_of nodes) i)
    each P all i within = subst (P i) (at i) (all i (inside i within))
