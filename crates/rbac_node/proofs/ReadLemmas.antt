-- What a node's member took of another one, where their marks agree.
use Rattle.std.proofs.Common.{ℕ, ◌≡◌, ◌≤◌, List, ◌++◌, length, take, drop, refl, sym, ap, ◌∙◌, arith, length-append, append_assoc}
use Rattle.std.proofs.lemmas.List.{take_at, take-take, take-append-drop}
use Rattle.rbac_words.specs.World.{read_of}
use Rattle.rbac_words.specs.Play.{IsPrefixOf}
use Rattle.rbac_words.specs.Keeping.Member.{node_of}
use Rattle.rbac_words.specs.Keeping.Members.{HasReadOf, HasRead}
use Rattle.rbac_words.specs.declared.message.Message.{Message}
use Rattle.rbac_board.specs.Known.{Agree}
use Rattle.rbac_node.specs.Node.{NodeState, seen_of}

-- the first of two lists that agree
agree_first : (xs ys : List Message) (n : ℕ) → Agree xs ys → n ≤ length xs → n ≤ length ys → take n xs ≡ take n ys
agree_first xs ys n agree l m = sym (take-take n (length ys) xs m) ∙ ap (take n) agree ∙ take-take n (length xs) ys l

-- a first part of what is known of a row, no longer than what its owner published, is a first part of what the owner sent
pub has_read : (receiver sender : NodeState) → HasReadOf receiver.member sender.member.number (seen_of receiver sender.member.number) → IsPrefixOf sender.sent sender.member.sent
    → Agree (seen_of receiver sender.member.number) sender.sent → read_of (node_of receiver.member) sender.member.number ≤ length sender.sent → HasRead receiver.member sender.member
has_read receiver sender read shown agree within =
    let seen : List Message = seen_of receiver sender.member.number in
    let n : ℕ = length read.taken in
    let count : read_of (node_of receiver.member) sender.member.number ≡ n = read.has_taken.count in
    let first : take n seen ≡ read.taken = ap (take n) read.sent ∙ take_at read.taken read.unread n refl in
    let long : length seen ≡ length (read.taken ++ read.unread) = ap length read.sent in
    let published : take n sender.sent ≡ read.taken = sym (agree_first seen sender.sent n agree (omega (arith, length-append read.taken read.unread)) (omega arith)) ∙ first in record {
      taken = read.taken;
      unread = drop n sender.sent ++ shown.0;
      sent =
          sym shown.1
          ∙ ap (λ l. l ++ shown.0) (sym (take-append-drop n sender.sent) ∙ ap (λ l. l ++ drop n sender.sent) published)
          ∙ append_assoc read.taken (drop n sender.sent) shown.0;
      has_taken = read.has_taken;
    }
