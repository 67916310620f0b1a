-- How far serials go.
use Rattle.std.proofs.Common.{ℕ, suc, false, ◌≡◌, ◌≤◌, ◌<◌, ◌*◌, None, List, [], ◌∷◌, length, length-append, refl, ap, arith}
use Rattle.std.specs.List.{AllByRecursion as Each, filter}
use Rattle.std.proofs.lemmas.Bool.Decides.{nat_tests}
use Rattle.std.proofs.lemmas.List.Sums.{length-filter, count_by-le-length}
use Rattle.rbac_terms.specs.declared.command.Command.{Command}
use Rattle.rbac_words.specs.Message.{submissions, submissions_of, next_place, in_turn, is_bad_batch, has_bad_batch, is_by, next_serial}
use Rattle.rbac_words.specs.World.{submit_refusal}
use Rattle.rbac_words.specs.Keeping.Member.{Member, IsMember, node_of}
use Rattle.rbac_words.specs.declared.message.Message.{Message}
use Rattle.rbac_words.specs.declared.message.Message.TheVariants.{Batch, Ack}
use Rattle.rbac_words.specs.declared.stamp.Stamp.{Stamp}
use Rattle.rbac_order.proofs.MemberLemmas.{passed_submit}

length-in_turn : (s : Stamp) (caller serial : ℕ) (cs : List Command) → length (in_turn s caller serial cs) ≡ length cs
length-in_turn s caller serial [] = refl
length-in_turn s caller serial (c ∷ cs) = ap suc (length-in_turn (next_place s) caller (suc serial) cs)

-- a batch has at most 64 commands
good_count : (serial count : ℕ) → is_bad_batch serial count ≡ false → count ≤ 64
good_count serial count e = grind (arith, nat_tests)

few : (m : Message) → has_bad_batch m ≡ false → length (submissions_of m) ≤ 64
few (Batch s caller serial cs) e = let same = length-in_turn s caller serial cs in let good = good_count serial (length cs) e in omega arith
few (Ack s) e = omega arith

-- no more than 64 commands for each message
few_commands : (messages : List Message) → Each (λ m. has_bad_batch m ≡ false) messages → length (submissions messages) ≤ 64 * length messages
few_commands [] batches = omega arith
few_commands (m ∷ messages) batches =
    let rest = few_commands messages batches.1 in
    let here = few m batches.0 in
    let both = length-append (submissions_of m) (submissions messages) in
    omega arith

-- the serial of a command that may be submitted is below 64 times the most messages that a member may send
pub serial_below : (v : Member) (caller serial count : ℕ) → IsMember v → submit_refusal v.group (node_of v) caller serial count ≡ None → serial < 4194304
serial_below v caller serial count kept accepted =
    let passed = passed_submit v caller serial count accepted in
    let next : serial ≡ next_serial caller (submissions v.sent) = passed.next in
    let own : length (filter (is_by caller) (submissions v.sent)) ≤ length (submissions v.sent) =
    let few = count_by-le-length (is_by caller) (submissions v.sent) in let same = length-filter (is_by caller) (submissions v.sent) in omega arith in
    let commands = few_commands v.sent kept.lawful.batches in omega (arith, passed.room, kept.group.few_sent)
