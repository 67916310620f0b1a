-- A move of one member of a group is the step of its world.
use Rattle.std.proofs.Common.{ℕ, suc, Bool, true, false, not, cond, ◌≡◌, ◌≤◌, ◌<◌, ◌+◌, ◌-◌, ◌==◌, ◌||◌, ◌&&◌, ◌⊎◌, inl, inr, nat_lt, nat_le, List, [], ◌∷◌, ◌++◌, length, set, get_or, drop, Option, Some, None, is_some, Result, Ok, Err, refl, sym, ap, subst, ◌∙◌, arith, true≢false}
use Rattle.std.specs.List.{filter}
use Rattle.std.proofs.lemmas.Bool.{eq-eqb, ne_eqb}
use Rattle.std.proofs.lemmas.List.{length-map, set-get_or}
use Rattle.std.proofs.lemmas.List.Elements.{filter-append}
use Rattle.rbac_terms.specs.Vocabulary.{Vocabulary}
use Rattle.rbac_words.specs.Group.{Group}
use Rattle.rbac_words.specs.Stamp.{IsAfter, is_after}
use Rattle.rbac_words.specs.Message.{stamp_of, next_place, in_turn as following, has_bad_batch, is_by, next_serial, CountsFrom, has_commands}
use Rattle.rbac_words.specs.Front.{is_of}
use Rattle.rbac_words.specs.World.{World, Node, node, is_member, read_of, stamp, message, submit_refusal, receive_refusal, room_refusal, submit_at, receive_at, deliver_at, with_node, refusal, outcome, after, place_of, due, answer_unless, world_unless, acknowledgement}
use Rattle.rbac_words.specs.Keeping.Links.{has_link, is_rising_of}
use Rattle.rbac_words.specs.Step.{grows, IsStep}
use Rattle.rbac_words.specs.Keeping.Member.{Member, node_of, links_of, latest_of, known, submitted, received, deliver_due, due_at, or_else, batch_refusal, serial_refusal, message_refusal, IsNext}
use Rattle.rbac_words.specs.Keeping.Members.{AreMembers, no_member, member_at, world_of}
use Rattle.rbac_terms.specs.declared.command.Command.{Command}
use Rattle.rbac_words.specs.declared.event.Event.{Event}
use Rattle.rbac_words.specs.declared.event.Event.TheVariants.{Submit, SubmitBatch, Receive, Deliver}
use Rattle.rbac_words.specs.declared.event.Outcome.{Outcome}
use Rattle.rbac_words.specs.declared.event.Outcome.TheVariants.{Submitted, Received, Delivered}
use Rattle.rbac_words.specs.declared.event.Refusal.{Refusal}
use Rattle.rbac_words.specs.declared.event.Refusal.TheVariants as refused
use Rattle.rbac_words.specs.declared.message.Message.{Message}
use Rattle.rbac_words.specs.declared.message.Message.TheVariants.{Batch, Ack}
use Rattle.rbac_words.specs.declared.message.Submission.{Submission}
use Rattle.rbac_words.specs.declared.stamp.Stamp.{Stamp}
use Rattle.rbac_order.proofs.StampLemmas.{true_before}
use Rattle.rbac_order.proofs.MessageLemmas.{CountsFrom-next}
use Rattle.rbac_order.proofs.RangeLemmas.{is_in_range, is_below_range, is_above_range, was_sent, meets}
use Rattle.rbac_order.proofs.GroupLemmas.{apart, read_by, due_is_due}
use Rattle.rbac_order.proofs.StepLemmas.{world_set, node_is, next_of as next_message, comes_next, members_submitted, members_receive, members_delivered, deliver_is}
use Rattle.rbac_world.specs.Moves.{Move, IsMoved, IsMovedAt, submit_of, receipt_refusal, receipt_of, delivery_of, IsGroupStep}
use Rattle.rbac_world.proofs.PlaceLemmas.{moved_at}

-- ---- Any event

-- an event that is not refused
taken : (w new : World) (e : Event) (o : Outcome) → refusal w e ≡ None → outcome w e ≡ o → new ≡ after w e → IsStep w e (Ok o) new
taken w new e o none gives leaves = record {
  outcome = ap (λ (r : Option Refusal). answer_unless r (outcome w e)) none ∙ ap (λ (p : Outcome). answer_unless None p) gives;
  stepped = leaves ∙ sym (ap (λ (r : Option Refusal). world_unless r (after w e) w) none);
  first_refusal = tt;
  memory_last = λ f. cc;
  memory_needed = λ f. cc;
  unchanged = tt;
}

-- an event that is refused
pub not_taken : (w : World) (e : Event) (r : Refusal) → refusal w e ≡ Some r → (r ≡ refused.NoMemory → ⊥) → IsStep w e (Err r) w
not_taken w e r some other = record {
  outcome = tt;
  stepped = tt;
  first_refusal = λ _. ap (λ (s : Option Refusal). answer_unless s (outcome w e)) some;
  memory_last = λ f. absurd (other (let g : r ≡ refused.NoMemory = cc in g));
  memory_needed = λ f. absurd (other (let g : r ≡ refused.NoMemory = cc in g));
  unchanged = refl;
}

-- an event for which memory may have run out
starved : (w : World) (e : Event) (r : Refusal) → ((r ≡ refused.NoMemory → ⊥) → refusal w e ≡ Some r) → (r ≡ refused.NoMemory → refusal w e ≡ None) → (r ≡ refused.NoMemory → grows w e ≡ true) → IsStep w e (Err r) w
starved w e r some none longer = record {
  outcome = tt;
  stepped = tt;
  first_refusal = λ other. ap (λ (s : Option Refusal). answer_unless s (outcome w e)) (some other);
  memory_last = λ f. none (let g : r ≡ refused.NoMemory = cc in g);
  memory_needed = λ f. longer (let g : r ≡ refused.NoMemory = cc in g);
  unchanged = refl;
}

module _ (group : Group) (vocabulary : Vocabulary) (ms : List Member) (are : AreMembers group vocabulary ms) where
  abbrev w : World
  w = world_of group vocabulary ms

  abbrev at : ℕ → Member
  at i = member_at ms i

  -- a move of the member at a place that the event is, in the words of the world
  record IsMoveOf (i : ℕ) (m : Move) (e : Event) : Type 0 where
    refused : refusal w e ≡ m.refusal
    gives : outcome w e ≡ m.outcome
    leaves : world_of group vocabulary (set ms i m.after) ≡ after w e
    longer : grows w e ≡ m.grows
    keeps : m.refusal ≡ None → AreMembers group vocabulary (set ms i m.after)

  by_move : (i : ℕ) (m : Move) (e : Event) → IsMoveOf i m e → (result : Result Outcome Refusal) (new : List Member) → IsMovedAt i m ms result new → IsGroupStep group vocabulary ms e result new
  by_move i m e is (Ok o) new moved =
      let changed : new ≡ set ms i m.after = moved.changed ∙ ap (set ms i) moved.is_moved.moved in record {
        step = taken w (world_of group vocabulary new) e o (is.refused ∙ moved.is_moved.accepted) (is.gives ∙ sym moved.is_moved.outcome) (ap (world_of group vocabulary) changed ∙ is.leaves);
        members = subst (AreMembers group vocabulary) (sym changed) (is.keeps moved.is_moved.accepted);
      }
  by_move i m e is (Err r) new moved =
      let unchanged : new ≡ ms = moved.changed ∙ ap (set ms i) moved.is_moved.unchanged ∙ set-get_or ms i no_member in record {
        step = subst (λ l. IsStep w e (Err r) (world_of group vocabulary l)) (sym unchanged)
            (starved w e r (λ other. is.refused ∙ moved.is_moved.first_refusal other) (λ f. is.refused ∙ moved.is_moved.memory_last f) (λ f. is.longer ∙ moved.is_moved.memory_needed f));
        members = subst (AreMembers group vocabulary) (sym unchanged) are;
      }

  -- a move of the member of a number, which is at this place, that the event of the number is
  at_place : (e : ℕ → Event) (m : Member → Move) → ((i : ℕ) → i < length ms → IsMoveOf i (m (at i)) (e (i + 1)))
      → (k i : ℕ) (u : Member) (result : Result Outcome Refusal) (after : Member) → (k ≡ i + 1) × (i < length ms)
      → IsMoved (m (get_or ms i u)) (get_or ms i u) result after → IsGroupStep group vocabulary ms (e k) result (set ms i after)
  at_place e m is k i u result after (number, here) moved =
      subst (λ n. IsGroupStep group vocabulary ms (e n) result (set ms i after)) (sym number)
      (by_move i (m (at i)) (e (i + 1)) (is i here) result (set ms i after) (moved_at m ms i u result after here moved))

  -- ---- Members and strangers

  inside : (i : ℕ) → i < length ms → is_member w (i + 1) ≡ true
  inside i h = let a : length w.nodes ≡ length ms = length-map ms node_of in is_in_range (i + 1) (length w.nodes) (omega arith) (omega arith)

  node_at : (i : ℕ) → node w (i + 1) ≡ node_of (at i)
  node_at i = node_is group vocabulary ms are (i + 1) ∙ ap (λ k. node_of (at k)) (let z : i + 1 - 1 ≡ i = omega arith in z)

  place : (i : ℕ) (v : Member) → world_of group vocabulary (set ms i v) ≡ with_node w (i + 1) (node_of v)
  place i v = world_set group vocabulary ms are i v ∙ ap (λ k. let z : World = record w { nodes = set w.nodes k (node_of v) } in z) (let z : i ≡ i + 1 - 1 = omega arith in z)

  pub stranger : (k : ℕ) → (k < 1) ⊎ (length ms < k) → is_member w k ≡ false
  stranger k h = let a : length w.nodes ≡ length ms = length-map ms node_of in elim h [ inl l ↦ is_below_range k (length w.nodes) l | inr l ↦ is_above_range k (length w.nodes) (omega arith) ]

  -- an event of a stranger
  pub by_stranger : (e : Event) → refusal w e ≡ Some refused.UnknownMember → IsGroupStep group vocabulary ms e (Err refused.UnknownMember) ms
  by_stranger e is = record { step = not_taken w e refused.UnknownMember is (λ f. cc); members = are }

  pub strange_submit : (k caller serial : ℕ) (c : Command) → (k < 1) ⊎ (length ms < k) → refusal w (Submit k caller serial c) ≡ Some refused.UnknownMember
  strange_submit k caller serial c h = rw (stranger k h) refl

  pub strange_delivery : (k : ℕ) → (k < 1) ⊎ (length ms < k) → refusal w (Deliver k) ≡ Some refused.UnknownMember
  strange_delivery k h = rw (stranger k h) refl

  pub strange_receiver : (k from n : ℕ) → (k < 1) ⊎ (length ms < k) → refusal w (Receive k from n) ≡ Some refused.UnknownMember
  strange_receiver k from n h = rw (stranger k h) refl

  pub strange_sender : (k from n : ℕ) → (from < 1) ⊎ (length ms < from) → refusal w (Receive k from n) ≡ Some refused.UnknownMember
  strange_sender k from n h = go (is_member w k) refl
    where
      go : (b : Bool) → is_member w k ≡ b → refusal w (Receive k from n) ≡ Some refused.UnknownMember
      go true e = rw (e, stranger from h) refl
      go false e = rw e refl

  pub from_itself : (i n : ℕ) → i < length ms → IsGroupStep group vocabulary ms (Receive (i + 1) (i + 1) n) (Err refused.FromSelf) ms
  from_itself i n h = record {
    step = not_taken w (Receive (i + 1) (i + 1) n) refused.FromSelf (rw (inside i h) (rw (eq-eqb (i + 1) (i + 1) refl) refl)) (λ f. cc);
    members = are;
  }

  -- ---- The three moves

  number : (i : ℕ) → i < length ms → (at i).number ≡ i + 1
  number i h = are.numbered i h

  group_of : (i : ℕ) → i < length ms → (at i).group ≡ group
  group_of i h = are.same_group i h

  -- each has a link from each
  pub linked : (i j : ℕ) → i < length ms → j < length ms → has_link (links_of (at i)) (at j).number ≡ true
  linked i j hi hj =
      let a : (at j).number ≡ j + 1 = number j hj in let b : length ms ≡ group.members = are.count in
      let c : (at i).group.members ≡ group.members = ap (λ (g : Group). g.members) (group_of i hi) in
      let e : length (at i).read ≡ (at i).group.members = (are.kept i hi).reads in is_in_range (at j).number (length (at i).read) (omega arith) (omega arith)

  batches : (i caller serial : ℕ) (cs : List Command) → i < length ms → IsMoveOf i (submit_of (at i) caller serial cs) (SubmitBatch (i + 1) caller serial cs)
  batches i caller serial cs h =
      let same = ap (λ (g : Group). submit_refusal g (node_of (at i)) caller serial (length cs)) (group_of i h) in record {
        refused = rw (inside i h) (ap (λ (v : Node). submit_refusal group v caller serial (length cs)) (node_at i) ∙ sym same);
        gives = ap (λ (v : Node). Submitted (stamp (v.clock + 1) (i + 1))) (node_at i) ∙ ap (λ k. Submitted (stamp ((at i).clock + 1) k)) (sym (number i h));
        leaves = place i (submitted (at i) caller serial cs) ∙ ap (λ (v : Node). with_node w (i + 1) (submit_at v caller serial cs)) (sym (node_at i));
        longer = refl;
        keeps = λ free. members_submitted group vocabulary ms are i caller serial cs h (sym same ∙ free);
      }

  pub batch_step : (k i caller serial : ℕ) (cs : List Command) (u : Member) (result : Result Outcome Refusal) (after : Member) → (k ≡ i + 1) × (i < length ms)
      → IsMoved (submit_of (get_or ms i u) caller serial cs) (get_or ms i u) result after → IsGroupStep group vocabulary ms (SubmitBatch k caller serial cs) result (set ms i after)
  batch_step k i caller serial cs = at_place (λ n. SubmitBatch n caller serial cs) (λ v. submit_of v caller serial cs) (λ j. batches j caller serial cs) k i

  -- one command is a batch of one
  submits : (i caller serial : ℕ) (c : Command) → i < length ms → IsMoveOf i (submit_of (at i) caller serial (c ∷ [])) (Submit (i + 1) caller serial c)
  submits i caller serial c h = let b = batches i caller serial (c ∷ []) h in record { refused = b.refused; gives = b.gives; leaves = b.leaves; longer = b.longer; keeps = b.keeps }

  pub submit_step : (k i caller serial : ℕ) (c : Command) (u : Member) (result : Result Outcome Refusal) (after : Member) → (k ≡ i + 1) × (i < length ms)
      → IsMoved (submit_of (get_or ms i u) caller serial (c ∷ [])) (get_or ms i u) result after → IsGroupStep group vocabulary ms (Submit k caller serial c) result (set ms i after)
  submit_step k i caller serial c = at_place (λ n. Submit n caller serial c) (λ v. submit_of v caller serial (c ∷ [])) (λ j. submits j caller serial c) k i

  delivers : (i : ℕ) → i < length ms → IsMoveOf i (delivery_of (at i)) (Deliver (i + 1))
  delivers i h = record {
    refused = rw (inside i h) refl;
    gives = ap (λ (v : Node). Delivered (place_of v (due w v))) (node_at i) ∙ ap (λ (o : Option Submission). Delivered (place_of (node_of (at i)) o)) is_due;
    leaves = place i (deliver_due (at i) (due_at (at i))) ∙ ap (λ (v : Node). with_node w (i + 1) v) (deliver_is group vocabulary ms are i (due_at (at i)) h)
        ∙ ap (λ (o : Option Submission). with_node w (i + 1) (deliver_at vocabulary (node_of (at i)) o)) (sym is_due) ∙ ap (λ (v : Node). with_node w (i + 1) (deliver_at vocabulary v (due w v))) (sym (node_at i));
    longer = ap (λ (v : Node). is_some (due w v)) (node_at i) ∙ ap is_some is_due;
    keeps = λ _. members_delivered group vocabulary ms are i h;
  }
    where
      is_due : due w (node_of (at i)) ≡ due_at (at i)
      is_due = due_is_due group vocabulary ms are i h

  pub deliver_step : (k i : ℕ) (u : Member) (result : Result Outcome Refusal) (after : Member) → (k ≡ i + 1) × (i < length ms)
      → IsMoved (delivery_of (get_or ms i u)) (get_or ms i u) result after → IsGroupStep group vocabulary ms (Deliver k) result (set ms i after)
  deliver_step = at_place Deliver delivery_of delivers

  -- ---- A message that a sender of the group sent is refused by what the world refuses

  is_after_true : (last : Option Stamp) (s : Stamp) → IsAfter last s → is_after last s ≡ true
  is_after_true None s a = refl
  is_after_true (Some last) s a = true_before last s a

  -- the next message of a sender has a rising stamp
  is_rising : (v : Member) (k : ℕ) (m : Message) → IsNext v k m → is_rising_of (links_of v) k (stamp_of m) ≡ true
  is_rising v k m next = rw (eq-eqb (stamp_of m).member k next.sender, eq-eqb (stamp_of m).place 0 next.first) (is_after_true (latest_of v k) (stamp_of m) next.after)

  -- its commands are a batch
  is_batch : (v : Member) (k : ℕ) (m : Message) → IsNext v k m → batch_refusal m ≡ None
  is_batch v k m next = rw next.batch refl

  -- and the first of them has the next serial
  in_turn : (v : Member) (k : ℕ) (m : Message) → IsNext v k m → serial_refusal v m ≡ None
  in_turn v k (Ack s) next = refl
  in_turn v k (Batch s caller serial []) next = absurd (true≢false next.batch)
  in_turn v k (Batch s caller serial (c ∷ cs)) next = rw (eq-eqb serial (next_serial caller (filter (is_of s.member) (known v))) is) refl
    where
      x : Submission
      x = record { stamp = s; caller = caller; serial = serial; command = c }

      rest : List Submission
      rest = following (next_place s) caller (suc serial) cs

      own : filter (is_by caller) (x ∷ rest) ≡ x ∷ filter (is_by caller) rest
      own = rw (eq-eqb caller caller refl) refl

      in_order : CountsFrom 0 (filter (is_by caller) (filter (is_of k) (known v)) ++ x ∷ filter (is_by caller) rest)
      in_order = subst (CountsFrom 0) (filter-append (is_by caller) (filter (is_of k) (known v)) (x ∷ rest) ∙ ap (λ l. filter (is_by caller) (filter (is_of k) (known v)) ++ l) own) (next.serials caller)

      is : serial ≡ next_serial caller (filter (is_of s.member) (known v))
      is = let e : serial ≡ 0 + next_serial caller (filter (is_of k) (known v)) = CountsFrom-next 0 (filter (is_by caller) (filter (is_of k) (known v))) x (filter (is_by caller) rest) in_order in
          let f : next_serial caller (filter (is_of k) (known v)) ≡ next_serial caller (filter (is_of s.member) (known v)) = ap (λ n. next_serial caller (filter (is_of n) (known v))) (sym next.sender) in omega arith

  or_else-none : (o : Option Refusal) → or_else o None ≡ o
  or_else-none None = refl
  or_else-none (Some r) = refl

  same_refusal : (i j n : ℕ) → i < length ms → j < length ms → (j ≡ i → ⊥) → receive_refusal group (node_of (at i)) (node_of (at j)) n ≡ receipt_refusal (at i) (at j) n
  same_refusal i j n hi hj d = go (n == 0 || nat_lt (length (at j).sent) n) refl
    where
      k : ℕ
      k = (at j).number

      m : Message
      m = message (node_of (at j)) n

      expected : ℕ
      expected = read_of (node_of (at i)) k + 1

      other : (k == (at i).number) ≡ false
      other = ne_eqb k (at i).number (apart group vocabulary ms are i j hi hj d)

      by_link : (o : Option Refusal) → cond (not (has_link (links_of (at i)) k)) (Some refused.UnknownMember) (cond (k == (at i).number) (Some refused.FromSelf) o) ≡ o
      by_link o = rw (linked i j hi hj, other) refl

      room : room_refusal group (node_of (at i)) m ≡ room_refusal (at i).group (node_of (at i)) m
      room = ap (λ (g : Group). room_refusal g (node_of (at i)) m) (sym (group_of i hi))

      by_number : (a b : Bool) → nat_lt n expected ≡ a → nat_lt expected n ≡ b → n ≤ length (at j).sent
          → cond a (Some (refused.Repeat expected)) (cond b (Some (refused.Gap expected)) (room_refusal group (node_of (at i)) m))
          ≡ or_else (cond a (Some (refused.Repeat expected)) (cond b (Some (refused.Gap expected)) (cond (is_rising_of (links_of (at i)) k (stamp_of m)) None (Some refused.StampNotRising)))) (or_else (batch_refusal m) (or_else (room_refusal (at i).group (node_of (at i)) m) (serial_refusal (at i) m)))
      by_number true b e f l = refl
      by_number false true e f l = refl
      by_number false false e f l =
          let next = next_message group vocabulary ms are i j m (drop 1 (read_by group vocabulary ms are i j hi hj d).unread) hi hj d (comes_next group vocabulary ms are i j n hi hj d (meets expected n e f) l) in
          rw (is_rising (at i) k m next, is_batch (at i) k m next, in_turn (at i) k m next) (room ∙ sym (or_else-none (room_refusal (at i).group (node_of (at i)) m)))

      go : (b : Bool) → (n == 0 || nat_lt (length (at j).sent) n) ≡ b
          → cond b (Some refused.NotSent) (cond (nat_lt n expected) (Some (refused.Repeat expected)) (cond (nat_lt expected n) (Some (refused.Gap expected)) (room_refusal group (node_of (at i)) m)))
          ≡ cond b (Some refused.NotSent) (message_refusal (at i) k n m)
      go true e = refl
      go false e =
          by_number (nat_lt n expected) (nat_lt expected n) refl refl (was_sent (length (at j).sent) n e)
          ∙ ap (λ (o : Option Refusal). or_else o (or_else (batch_refusal m) (or_else (room_refusal (at i).group (node_of (at i)) m) (serial_refusal (at i) m)))) (sym (by_link _))

  receives : (i j n : ℕ) → i < length ms → j < length ms → (j ≡ i → ⊥) → IsMoveOf i (receipt_of (at i) (at j) n) (Receive (i + 1) (j + 1) n)
  receives i j n hi hj d = record {
    refused = rw (inside i hi, inside j hj) (rw (ne_eqb (j + 1) (i + 1) (λ e. d (omega arith)))
        (ap (λ (v : Node). receive_refusal group v (node w (j + 1)) n) (node_at i) ∙ ap (λ (u : Node). receive_refusal group (node_of (at i)) u n) (node_at j) ∙ same_refusal i j n hi hj d));
    gives = ap (λ (v : Node). Received (acknowledgement v (message (node w (j + 1)) n))) (node_at i) ∙ ap (λ (u : Node). Received (acknowledgement (node_of (at i)) (message u n))) (node_at j);
    leaves = place i (received (at i) (at j).number m) ∙ ap (λ k. with_node w (i + 1) (receive_at (node_of (at i)) k m)) (number j hj)
        ∙ ap (λ (u : Node). with_node w (i + 1) (receive_at (node_of (at i)) (j + 1) (message u n))) (sym (node_at j))
        ∙ ap (λ (v : Node). with_node w (i + 1) (receive_at v (j + 1) (message (node w (j + 1)) n))) (sym (node_at i));
    longer = ap (λ (u : Node). has_commands (message u n)) (node_at j);
    keeps = λ free. subst (λ k. AreMembers group vocabulary (set ms i (received (at i) k m))) (sym (number j hj)) (members_receive group vocabulary ms are i j n hi hj d (same_refusal i j n hi hj d ∙ free));
  }
    where
      m : Message
      m = message (node_of (at j)) n

  pub receive_step : (i j n : ℕ) (result : Result Outcome Refusal) (new : List Member) → i < length ms → j < length ms → (j ≡ i → ⊥) → IsMovedAt i (receipt_of (at i) (at j) n) ms result new
      → IsGroupStep group vocabulary ms (Receive (i + 1) (j + 1) n) result new
  receive_step i j n result new hi hj d = by_move i (receipt_of (at i) (at j) n) (Receive (i + 1) (j + 1) n) (receives i j n hi hj d) result new
