-- What a message that is not refused has passed.
use Rattle.std.proofs.Common.{ℕ, true, false, not, ◌≡◌, ◌≤◌, ◌==◌, ◌&&◌, nat_lt, ◌++◌, ◌-◌, ◌+◌, slice_index_or, length, refl, sym, ap, subst, ◌∙◌, arith, append-nil, Option, Some, None}
use Rattle.std.specs.List.{filter}
use Rattle.std.proofs.lemmas.Bool.{eqb-true, eqb-false, not-false}
use Rattle.rbac_words.specs.Stamp.{IsAfter, is_after}
use Rattle.rbac_words.specs.Message.{stamp_of, submissions_of, has_bad_batch, is_by, next_serial, CountsFrom}
use Rattle.rbac_words.specs.Front.{is_of}
use Rattle.rbac_words.specs.Keeping.Links.{Links, has_link, next_of, is_rising_of, link_refusal}
use Rattle.rbac_words.specs.World.{room_refusal, read_of}
use Rattle.rbac_words.specs.Keeping.Member.{Member, node_of, links_of, latest_of, known, or_else, batch_refusal, serial_refusal, message_refusal, IsMember, IsNext}
use Rattle.rbac_words.specs.declared.event.Refusal.{Refusal}
use Rattle.rbac_words.specs.declared.event.Refusal.TheVariants.{UnknownMember, FromSelf, Repeat, Gap, StampNotRising, BadBatch, BadSerial}
use Rattle.rbac_words.specs.declared.message.Message.{Message}
use Rattle.rbac_words.specs.declared.message.Message.TheVariants.{Batch, Ack}
use Rattle.rbac_words.specs.declared.stamp.Stamp.{Stamp}
use Rattle.rbac_order.proofs.RangeLemmas.{in_range, meets}
use Rattle.rbac_order.proofs.StampLemmas.{before_true}
use Rattle.rbac_order.proofs.MessageLemmas.{serials_go_on}
use Rattle.rbac_order.proofs.StepLemmas.{if_none, unless_none, and_both}

-- two refusals, one after the other
pub both_none : (a b : Option Refusal) → or_else a b ≡ None → (a ≡ None) × (b ≡ None)
both_none None b e = (refl, e)
both_none (Some r) b e = let no : ⊥ = cc in absurd no

pub passed_by_link : (v : Member) (from n : ℕ) (m : Message) → message_refusal v from n m ≡ None → link_refusal (links_of v) from n (stamp_of m) ≡ None
passed_by_link v from n m free = (both_none (link_refusal (links_of v) from n (stamp_of m)) _ free).0

after_batch : (v : Member) (from n : ℕ) (m : Message) → message_refusal v from n m ≡ None → (batch_refusal m ≡ None) × (or_else (room_refusal v.group (node_of v) m) (serial_refusal v m) ≡ None)
after_batch v from n m free = both_none (batch_refusal m) _ (both_none (link_refusal (links_of v) from n (stamp_of m)) _ free).1

pub batch_is_good : (v : Member) (from n : ℕ) (m : Message) → message_refusal v from n m ≡ None → has_bad_batch m ≡ false
batch_is_good v from n m free = (if_none (has_bad_batch m) BadBatch None (after_batch v from n m free).0).0

pub room_is_free : (v : Member) (from n : ℕ) (m : Message) → message_refusal v from n m ≡ None → room_refusal v.group (node_of v) m ≡ None
room_is_free v from n m free = (both_none (room_refusal v.group (node_of v) m) (serial_refusal v m) (after_batch v from n m free).1).0

pub serial_in_turn : (v : Member) (from n : ℕ) (m : Message) → message_refusal v from n m ≡ None → serial_refusal v m ≡ None
serial_in_turn v from n m free = (both_none (room_refusal v.group (node_of v) m) (serial_refusal v m) (after_batch v from n m free).1).1

-- what a link has seen of a message that it takes
pub record IsTaken (l : Links) (from n : ℕ) (s : Stamp) : Type 0 where
  pub low : 1 ≤ from
  pub high : from ≤ length l.read
  pub other : from ≡ l.me → ⊥
  pub sender : s.member ≡ from
  pub first : s.place ≡ 0
  pub after : is_after (slice_index_or l.latest (from - 1) None) s ≡ true

pub is_taken : (l : Links) (from n : ℕ) (s : Stamp) → link_refusal l from n s ≡ None → IsTaken l from n s
is_taken l from n s free =
    let a = if_none (not (has_link l from)) UnknownMember _ free in
    let within = in_range from (length l.read) (not-false (has_link l from) a.0) in
    let b = if_none (from == l.me) FromSelf _ a.1 in
    let c = if_none (nat_lt n (next_of l from)) (Repeat (next_of l from)) _ b.1 in
    let d = if_none (nat_lt (next_of l from) n) (Gap (next_of l from)) _ c.1 in
    let e = unless_none (is_rising_of l from s) StampNotRising None d.1 in
    let f = and_both (s.member == from) (s.place == 0 && is_after (slice_index_or l.latest (from - 1) None) s) e.0 in
    let g = and_both (s.place == 0) (is_after (slice_index_or l.latest (from - 1) None) s) f.1 in
    record {
      low = within.0;
      high = within.1;
      other = eqb-false from l.me b.0;
      sender = eqb-true s.member from f.0;
      first = eqb-true s.place 0 g.0;
      after = g.1;
    }

pub after_is : (last : Option Stamp) (s : Stamp) → is_after last s ≡ true → IsAfter last s
after_is None s e = tt
after_is (Some last) s e = before_true last s e

-- a message that is not refused is the next of its sender
pub next_is : (v : Member) (from n : ℕ) (m : Message) → IsMember v → message_refusal v from n m ≡ None → IsNext v from m
next_is v from n m kept free =
    let t = is_taken (links_of v) from n (stamp_of m) (passed_by_link v from n m free) in
    let count : length v.read ≡ v.group.members = kept.reads in let high : from ≤ length v.read = t.high in
    record {
      number = record { low = t.low; high = omega arith };
      other = t.other;
      sender = t.sender;
      first = t.first;
      after = after_is (latest_of v from) (stamp_of m) t.after;
      batch = batch_is_good v from n m free;
      serials = go m t.sender (serial_in_turn v from n m free);
    }
  where
    go : (z : Message) → (stamp_of z).member ≡ from → serial_refusal v z ≡ None → (caller : ℕ) → CountsFrom 0 (filter (is_by caller) (filter (is_of from) (known v) ++ submissions_of z))
    go (Ack s) e f caller = subst (λ l. CountsFrom 0 (filter (is_by caller) l)) (sym (append-nil (filter (is_of from) (known v)))) (kept.serials from caller)
    go (Batch s c serial commands) e f caller =
        let same = unless_none (serial == next_serial c (filter (is_of s.member) (known v))) (BadSerial (next_serial c (filter (is_of s.member) (known v)))) None f in
        serials_go_on (filter (is_of from) (known v)) s c serial commands (kept.serials from) (eqb-true serial (next_serial c (filter (is_of s.member) (known v))) same.0 ∙ ap (λ k. next_serial c (filter (is_of k) (known v))) e) caller

-- its number is the one after those that were taken
pub number_is : (v : Member) (from n : ℕ) (m : Message) → message_refusal v from n m ≡ None → n ≡ read_of (node_of v) from + 1
number_is v from n m free =
    let l = links_of v in
    let a = if_none (not (has_link l from)) UnknownMember _ (passed_by_link v from n m free) in
    let b = if_none (from == l.me) FromSelf _ a.1 in
    let c = if_none (nat_lt n (next_of l from)) (Repeat (next_of l from)) _ b.1 in
    let d = if_none (nat_lt (next_of l from) n) (Gap (next_of l from)) _ c.1 in
    meets (next_of l from) n c.0 d.0
