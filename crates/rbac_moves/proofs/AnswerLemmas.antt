-- An acknowledgement that is taken from the row before the message is received.
use Rattle.std.proofs.Common.{ℕ, true, false, max, nat_lt, nat_le, ◌≡◌, ◌≤◌, ◌<◌, ◌+◌, ◌-◌, ◌&&◌, [], ◌∷◌, ◌++◌, length, set, refl, sym, ap, ◌∙◌, arith, append-nil, Option, Some, None}
use Rattle.std.proofs.lemmas.Bool.Decides.{nat_tests}
use Rattle.rbac_words.specs.Limits.{last_clock}
use Rattle.rbac_words.specs.Stamp.{IsBefore, insert_all}
use Rattle.rbac_words.specs.Message.{stamp_of, submitted_at, submissions_of}
use Rattle.rbac_words.specs.World.{must_acknowledge, clock_after, read_of, room_refusal, acknowledgement, acks}
use Rattle.rbac_words.specs.Keeping.Links.{link_refusal}
use Rattle.rbac_words.specs.Keeping.Member.{Member, IsMember, node_of, links_of, received, or_else, batch_refusal, serial_refusal, message_refusal}
use Rattle.rbac_words.specs.declared.event.Refusal.{Refusal}
use Rattle.rbac_words.specs.declared.event.Refusal.TheVariants.{ClockFull, SentFull}
use Rattle.rbac_words.specs.declared.message.Message.{Message}
use Rattle.rbac_words.specs.declared.message.Message.TheVariants.{Batch, Ack}
use Rattle.rbac_words.specs.declared.stamp.Stamp.{Stamp}
use Rattle.sorted_keys.proofs.Lists.{Each-weaker}
use Rattle.rbac_order.proofs.StampLemmas.{earlier}
use Rattle.rbac_order.proofs.StepLemmas.{if_none}
use Rattle.rbac_words.specs.Keeping.Own.{own_refusal, took_own, answer_stamp}
use Rattle.rbac_order.proofs.OwnLemmas.{never_refused}
use Rattle.rbac_order.proofs.ReceiptLemmas.{passed_by_link, batch_is_good, room_is_free, serial_in_turn}
use Rattle.rbac_moves.proofs.SealMoveLemmas.{clock_unanswered, sent_unanswered, room_unanswered, lawful_sealed}
use Rattle.rbac_moves.proofs.RowMoveLemmas.{below_own}

module _ (v : Member) (m : Message) where
  abbrev s : Stamp
  s = answer_stamp v m

  abbrev u : Member
  u = took_own v (Ack s)

  pub answered : must_acknowledge (node_of u) m ≡ false
  answered = below_own v (Ack s) m (earlier (stamp_of m) s (omega arith))

  clock_answering : must_acknowledge (node_of v) m ≡ true → clock_after (node_of v) m ≡ max v.clock (stamp_of m).clock + 1 + 1
  clock_answering f = rw f refl

-- what room a message has found that is to be acknowledged
record HasRoom (v : Member) (m : Message) : Type 0 where
  pub clock : max v.clock (stamp_of m).clock + 1 + 1 ≤ last_clock
  pub sent : length v.sent < v.group.sent_limit

has_room : (v : Member) (from n : ℕ) (m : Message) → message_refusal v from n m ≡ None → must_acknowledge (node_of v) m ≡ true → HasRoom v m
has_room v from n m free f =
    let a = if_none (nat_lt last_clock (clock_after (node_of v) m)) ClockFull _ (room_is_free v from n m free) in
    let b = if_none (must_acknowledge (node_of v) m && nat_le v.group.sent_limit (length v.sent)) SentFull None a.1 in
    let c : nat_le v.group.sent_limit (length v.sent) ≡ false = ap (λ t. t && nat_le v.group.sent_limit (length v.sent)) (sym f) ∙ b.0 in
    record { clock = below last_clock (max v.clock (stamp_of m).clock + 1 + 1) (ap (nat_lt last_clock) (sym (clock_answering v m f)) ∙ a.0); sent = above v.group.sent_limit (length v.sent) c }
  where
    below : (a b : ℕ) → nat_lt a b ≡ false → b ≤ a
    below a b e = grind (arith, nat_tests)

    above : (a b : ℕ) → nat_le a b ≡ false → b < a
    above a b e = grind (arith, nat_tests)

pub may_answer : (v : Member) (from n : ℕ) (m : Message) → IsMember v → message_refusal v from n m ≡ None → must_acknowledge (node_of v) m ≡ true → own_refusal v (length v.sent + 1) (Ack (answer_stamp v m)) ≡ None
may_answer v from n m k free f =
    let room = has_room v from n m free f in
    let range : max v.clock (stamp_of m).clock + 1 + 1 ≤ last_clock = room.clock in
    never_refused v (Ack (answer_stamp v m)) [] k
    (lawful_sealed v.number v.group v.sent (answer_stamp v m) k.lawful refl refl
    (Each-weaker (λ j. (stamp_of j).clock ≤ v.clock) (λ j. IsBefore (stamp_of j) (answer_stamp v m)) v.sent (λ j h. earlier (stamp_of j) (answer_stamp v m) (omega arith)) k.clock_of_sent) (omega arith) room.sent)

pub receives_then : (v : Member) (from n : ℕ) (m : Message) → message_refusal v from n m ≡ None → must_acknowledge (node_of v) m ≡ true → message_refusal (took_own v (Ack (answer_stamp v m))) from n m ≡ None
receives_then v from n m free f =
    let u : Member = took_own v (Ack (answer_stamp v m)) in
    let range : max v.clock (stamp_of m).clock + 1 + 1 ≤ last_clock = (has_room v from n m free f).clock in
    four (link_refusal (links_of u) from n (stamp_of m)) (batch_refusal m) (room_refusal u.group (node_of u) m) (serial_refusal u m)
    (passed_by_link v from n m free)
    (let good = batch_is_good v from n m free in rw good refl)
    (room_unanswered u m (answered v m) (omega arith) (omega arith))
    (ap (λ l. serial_refusal (let t : Member = record u { held = l } in t) m) (append-nil v.held) ∙ serial_same m (serial_in_turn v from n m free))
  where
    four : (a b c d : Option Refusal) → a ≡ None → b ≡ None → c ≡ None → d ≡ None → or_else a (or_else b (or_else c d)) ≡ None
    four a b c d p q r t = rw (p, q, r, t) refl

    serial_same : (z : Message) → serial_refusal v z ≡ None → serial_refusal (let t : Member = record (took_own v (Ack (answer_stamp v m))) { held = v.held } in t) z ≡ None
    serial_same (Ack t) e = e
    serial_same (Batch t caller serial commands) e = e

pub is_receipt : (v : Member) (from : ℕ) (m : Message) → must_acknowledge (node_of v) m ≡ true
    → received (took_own v (Ack (answer_stamp v m))) from m ≡ (let t : Member = record (received v from m) { sent = v.sent ++ Ack (answer_stamp v m) ∷ [] } in t)
is_receipt v from m f =
    let u : Member = took_own v (Ack (answer_stamp v m)) in
    let now : clock_after (node_of u) m ≡ max u.clock (stamp_of m).clock + 1 = clock_unanswered u from m (answered v m) in
    let clock : clock_after (node_of u) m ≡ clock_after (node_of v) m = now ∙ (let z : max u.clock (stamp_of m).clock + 1 ≡ max v.clock (stamp_of m).clock + 1 + 1 = omega arith in z) ∙ sym (clock_answering v m f) in
    let sent : u.sent ++ acks (acknowledgement (node_of u) m) ≡ u.sent = sent_unanswered u from m (answered v m) in
    let held : insert_all submitted_at (submissions_of m) u.held ≡ insert_all submitted_at (submissions_of m) v.held = ap (insert_all submitted_at (submissions_of m)) (append-nil v.held) in
    λ i. record {
      group = v.group;
      vocabulary = v.vocabulary;
      number = v.number;
      clock = clock i;
      sent = sent i;
      read = set v.read (from - 1) (read_of (node_of v) from + 1);
      latest = set v.latest (from - 1) (Some (stamp_of m));
      held = held i;
      history = v.history;
      policy = v.policy;
    }
