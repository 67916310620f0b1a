use Rattle.std.proofs.Common.{◌≡◌, ◌≤◌, ◌-◌, ℕ, List, length, get_or, refl, ap, sym, subst, ◌∙◌, arith}
use Rattle.rbac_words.specs.World.{read_of}
use Rattle.rbac_words.specs.Keeping.Member.{node_of}
use Rattle.rbac_words.specs.Keeping.Members.{HasRead}
use Rattle.rbac_words.specs.declared.message.Message.{Message}
use Rattle.rbac_board.specs.Known.{Agree}
use Rattle.rbac_node.specs.Inside.{state_of}
use Rattle.rbac_node.specs.Node.{NodeState, IsAnother, seen_of}
use Rattle.rbac_node.proofs.MarkLemmas.{IsMarkOf, seen_by}
use Rattle.rbac_node.proofs.ReadLemmas.{has_read}
use Rattle.rbac_node.proofs.node.Node.agrees_with.Goals as goal

pub returns-clause-read : goal.returns-clause-read
returns-clause-read g c =
    let mine = c.self.inside in
    let theirs = c.other.inside in
    let receiver : NodeState = state_of mine.member mine.sent mine.history mine.reads.items mine.next_caller mine.is_stopped in
    let sender : NodeState = state_of theirs.member theirs.sent theirs.history theirs.reads.items theirs.next_caller theirs.is_stopped in
    let k = theirs.member.number in
    let is : c.number.result ≡ k = c.number.ensures in
    let low : 1 ≤ k = c.invariants-2.ensures.low in
    let members : theirs.member.group.members ≡ mine.member.group.members = ap (λ group. group.members) (c.other.invariant.group ∙ sym c.self.invariant.group) in
    let within_group : k ≤ theirs.member.group.members = c.invariants-2.ensures.high in
    let another : IsAnother mine.member k = record { number = record { low = low; high = omega arith }; other = rw (← c.self.view_is, ← c.other.view_is) at c.requires.apart } in
    let mark : IsMarkOf mine.reads.items k c.index_mut.result.now = record {
      low = low;
      high = let count : length mine.reads.items ≡ g.G.GroupName.group.members = c.self.invariant.reads.count in let same : mine.member.group.members ≡ g.G.GroupName.group.members = ap (λ group. group.members) c.self.invariant.group in omega arith;
      is = subst (λ (j : ℕ). c.index_mut.result.now ≡ get_or mine.reads.items (j - 1) c.index_mut.result.now) is c.index_mut.ensures.value;
    } in
    let seen : seen_of receiver k ≡ c.index_mut.result.now.values = seen_by receiver mine.reads.items refl k c.index_mut.result.now mark in
    let agree : Agree (seen_of receiver k) sender.sent = subst (λ (l : List Message). Agree l sender.sent) (sym seen) c.agree.ensures.agree in
    let published : read_of (node_of mine.member) k ≤ length sender.sent = rw (← c.self.view_is, ← c.other.view_is) at c.requires.within in
    let all : HasRead mine.member theirs.member = has_read receiver sender (c.self.invariant.shown.reads k another) c.other.invariant.shown.sent agree published in
    rw (← c.self.view_is, ← c.other.view_is) all
