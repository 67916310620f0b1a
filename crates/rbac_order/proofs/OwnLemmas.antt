-- What a member keeps that takes a message of its own row.
use Rattle.std.proofs.Common.{ℕ, suc, Bool, true, false, cond, max, nat_lt, nat_le, ◌≡◌, ◌≤◌, ◌<◌, ◌+◌, ◌==◌, ◌&&◌, ◌||◌, List, [], ◌∷◌, ◌++◌, length, length-append, refl, sym, ap, subst, ◌∙◌, arith, true≢false, append-nil, append_assoc, Option, Some, None}
use Rattle.std.specs.List.{AllByRecursion as Each, filter}
use Rattle.std.proofs.lemmas.Bool.{or_left, eqb-true}
use Rattle.std.proofs.lemmas.Bool.Decides.{nat_tests}
use Rattle.std.proofs.lemmas.List.Elements.{filter-append}
use Rattle.std.proofs.lemmas.List.Folds.{list_any-append}
use Rattle.rbac_words.specs.Limits.{last_clock}
use Rattle.rbac_words.specs.Stamp.{IsBefore, is_before, IsRising, IsAfter, is_after, last_stamp}
use Rattle.rbac_words.specs.Message.{stamp_of, submitted_at, submissions_of, has_bad_batch, submissions, next_place, in_turn, commands_of, has_later, is_by, next_serial, CountsFrom, IsLawful}
use Rattle.rbac_words.specs.Front.{is_of}
use Rattle.rbac_words.specs.World.{submit_refusal}
use Rattle.rbac_words.specs.Keeping.Member.{Member, IsMember, IsNumber, IsCovered, IsClockAbove, node_of, latest_of, known, batch, submitted, batch_refusal, serial_refusal}
use Rattle.rbac_words.specs.Keeping.Members.{HasReadOf}
use Rattle.rbac_words.specs.declared.event.Refusal.TheVariants.{Repeat, Gap, StampNotRising, BadBatch, ClockFull, SentFull, BadSerial}
use Rattle.rbac_terms.specs.declared.command.Command.{Command}
use Rattle.rbac_words.specs.declared.message.Message.{Message}
use Rattle.rbac_words.specs.declared.message.Message.TheVariants.{Batch, Ack}
use Rattle.rbac_words.specs.declared.message.Submission.{Submission}
use Rattle.rbac_words.specs.declared.stamp.Stamp.{Stamp}
use Rattle.sorted_keys.proofs.Lists.{Each-append, Each-right, Each-weaker, Each-both, Each-from_filter}
use Rattle.rbac_order.proofs.StampLemmas.{earlier, before_next, before_trans, before_true, true_before, message_later, Rising-append, Rising-push, Rising-across, last_has}
use Rattle.rbac_order.proofs.MessageLemmas.{submissions-append, serials_go_on, Each-commands, Each-submissions, own_rising, Lawful-left, CountsFrom-next}
use Rattle.rbac_order.proofs.SenderLemmas.{of, Rising, decide, is_of-yes, of-none, of-all}
use Rattle.rbac_order.proofs.MemberLemmas.{keeps_submit}
use Rattle.rbac_order.proofs.RangeLemmas.{meets}
use Rattle.rbac_order.proofs.ReceiptLemmas.{both_none, after_is}
use Rattle.rbac_order.proofs.StepLemmas.{stays_read, if_none, unless_none, and_both}
use Rattle.rbac_words.specs.Keeping.Own.{next_own, is_own_rising, row_refusal, own_room_refusal, own_refusal, took_own}

-- ---- What a message of its own has passed that is not refused

-- this is the next message of the member's own row
pub record IsOwnNext (v : Member) (m : Message) : Type 0 where
  pub sender : (stamp_of m).member ≡ v.number
  pub first : (stamp_of m).place ≡ 0
  pub after : IsAfter (last_stamp stamp_of v.sent) (stamp_of m)
  pub batch : has_bad_batch m ≡ false
  pub range : (stamp_of m).clock ≤ last_clock
  pub room : length v.sent < v.group.sent_limit
  pub serial : serial_refusal v m ≡ None

pub own_next_is : (v : Member) (n : ℕ) (m : Message) → own_refusal v n m ≡ None → IsOwnNext v m
own_next_is v n m free =
    let s = stamp_of m in
    let p = both_none (row_refusal v n s) _ free in
    let q = both_none (batch_refusal m) _ p.1 in
    let r = both_none (own_room_refusal v m) (serial_refusal v m) q.1 in
    let a = if_none (nat_lt n (next_own v)) (Repeat (next_own v)) _ p.0 in
    let b = if_none (nat_lt (next_own v) n) (Gap (next_own v)) _ a.1 in
    let c = unless_none (is_own_rising v s) StampNotRising None b.1 in
    let d = and_both (s.member == v.number) (s.place == 0 && is_after (last_stamp stamp_of v.sent) s) c.0 in
    let e = and_both (s.place == 0) (is_after (last_stamp stamp_of v.sent) s) d.1 in
    let f = if_none (nat_lt last_clock s.clock) ClockFull _ r.0 in
    let g = if_none (nat_le v.group.sent_limit (length v.sent)) SentFull None f.1 in
    record {
      sender = eqb-true s.member v.number d.0;
      first = eqb-true s.place 0 e.0;
      after = after_is (last_stamp stamp_of v.sent) s e.1;
      batch = (if_none (has_bad_batch m) BadBatch None q.0).0;
      range = below last_clock s.clock f.0;
      room = above v.group.sent_limit (length v.sent) g.0;
      serial = r.1;
    }
  where
    below : (a b : ℕ) → nat_lt a b ≡ false → b ≤ a
    below a b e = grind (arith, nat_tests)

    above : (a b : ℕ) → nat_le a b ≡ false → b < a
    above a b e = grind (arith, nat_tests)

-- and its number
pub own_number_is : (v : Member) (n : ℕ) (m : Message) → own_refusal v n m ≡ None → n ≡ length v.sent + 1
own_number_is v n m free =
    let p = both_none (row_refusal v n (stamp_of m)) _ free in
    let a = if_none (nat_lt n (next_own v)) (Repeat (next_own v)) _ p.0 in
    let b = if_none (nat_lt (next_own v) n) (Gap (next_own v)) _ a.1 in
    meets (next_own v) n a.0 b.0

-- ---- It lies above all that the member knows

-- a stamp after the last of rising messages is after each
all_before : (ms : List Message) (s : Stamp) → IsRising stamp_of ms → IsAfter (last_stamp stamp_of ms) s → Each (λ m. IsBefore (stamp_of m) s) ms
all_before [] s r a = tt
all_before (m ∷ []) s r a = (a, tt)
all_before (m ∷ n ∷ ms) s r a = let on = all_before (n ∷ ms) s r.1 a in (before_trans (stamp_of m) (stamp_of n) s r.0.0 on.0, on)

-- and after what one of them is after
later_before : (ms : List Message) (s t : Stamp) → Each (λ m. IsBefore (stamp_of m) s) ms → has_later ms t ≡ true → IsBefore t s
later_before [] s t a e = absurd (true≢false (sym e))
later_before (m ∷ ms) s t a e = go (is_before t (stamp_of m)) refl e (later_before ms s t a.1)
  where
    go : (b : Bool) → is_before t (stamp_of m) ≡ b → (b || has_later ms t) ≡ true → (has_later ms t ≡ true → IsBefore t s) → IsBefore t s
    go true f g on = before_trans t (stamp_of m) s (before_true t (stamp_of m) f) a.0
    go false f g on = on g

module _ (v : Member) (m : Message) (k : IsMember v) (next : IsOwnNext v m) where
  abbrev s : Stamp
  s = stamp_of m

  sent_before : Each (λ n. IsBefore (stamp_of n) s) v.sent
  sent_before = all_before v.sent s k.lawful.rising next.after

  sent_earlier : Each (λ n. (stamp_of n).clock < s.clock) v.sent
  sent_earlier =
      Each-weaker (λ n. IsBefore (stamp_of n) s × ((stamp_of n).member ≡ v.number)) (λ n. (stamp_of n).clock < s.clock) v.sent (λ n h. message_later (stamp_of n) s (next.sender ∙ sym h.1) next.first h.0)
      (Each-both (λ n. IsBefore (stamp_of n) s) (λ n. (stamp_of n).member ≡ v.number) v.sent sent_before k.lawful.own)

  own_before : Each (λ (x : Submission). IsBefore x.stamp s) (submissions v.sent)
  own_before =
      Each-weaker (λ (x : Submission). x.stamp.clock < s.clock) (λ x. IsBefore x.stamp s) (submissions v.sent) (λ x h. earlier x.stamp s h) (Each-submissions (λ t. t.clock < s.clock) (λ t h. h) v.sent sent_earlier)

  pub known_before : Each (λ (x : Submission). IsBefore x.stamp s) (known v)
  known_before =
      Each-weaker (λ x. (is_of v.number x ≡ true → IsBefore x.stamp s) × ((x.stamp.member ≡ v.number → ⊥) → has_later v.sent x.stamp ≡ true)) (λ (x : Submission). IsBefore x.stamp s) (known v)
      (λ x p. decide (IsBefore x.stamp s) x.stamp.member v.number (λ e. p.0 (is_of-yes v.number x e)) (λ d. later_before v.sent s x.stamp sent_before (p.1 d)))
      (Each-both (λ x. is_of v.number x ≡ true → IsBefore x.stamp s) (λ x. (x.stamp.member ≡ v.number → ⊥) → has_later v.sent x.stamp ≡ true) (known v)
      (Each-from_filter (λ (x : Submission). IsBefore x.stamp s) (is_of v.number) (known v) (subst (Each (λ (x : Submission). IsBefore x.stamp s)) (sym k.own) own_before)) k.acknowledged)

  -- ---- Its commands

  abbrev xs : List Submission
  xs = submissions_of m

  pub known_taken : known (took_own v m) ≡ known v ++ xs
  known_taken = sym (append_assoc (commands_of v.history) v.held xs)

  sent_taken : submissions (v.sent ++ m ∷ []) ≡ submissions v.sent ++ xs
  sent_taken = submissions-append v.sent (m ∷ []) ∙ ap (λ l. submissions v.sent ++ l) (append-nil xs)

  own_commands : Each (λ (x : Submission). x.stamp.member ≡ v.number) xs
  own_commands = Each-commands (λ t. t.member ≡ v.number) (λ t e. e) m next.sender

  -- the commands of another member stay as they are
  pub of-taken_other : (j : ℕ) → (j ≡ v.number → ⊥) → of j (known (took_own v m)) ≡ of j (known v)
  of-taken_other j d =
      ap (of j) known_taken ∙ filter-append (is_of j) (known v) xs
      ∙ ap (λ l. of j (known v) ++ l) (of-none j xs (Each-weaker (λ (x : Submission). x.stamp.member ≡ v.number) (λ x. x.stamp.member ≡ j → ⊥) xs (λ x e f. d (sym f ∙ e)) own_commands))
      ∙ append-nil (of j (known v))

  own_taken : of v.number (known (took_own v m)) ≡ submissions v.sent ++ xs
  own_taken = ap (of v.number) known_taken ∙ filter-append (is_of v.number) (known v) xs ∙ ap (λ l. l ++ of v.number xs) k.own ∙ ap (λ l. submissions v.sent ++ l) (of-all v.number xs own_commands)

  row_serials : (caller : ℕ) → CountsFrom 0 (filter (is_by caller) (submissions v.sent ++ xs))
  row_serials = go m next.sender next.serial
    where
      go : (z : Message) → (stamp_of z).member ≡ v.number → serial_refusal v z ≡ None → (caller : ℕ) → CountsFrom 0 (filter (is_by caller) (submissions v.sent ++ submissions_of z))
      go (Ack t) e f caller = subst (λ l. CountsFrom 0 (filter (is_by caller) l)) (sym (append-nil (submissions v.sent))) (k.lawful.serials caller)
      go (Batch t c serial commands) e f caller =
          let same = unless_none (serial == next_serial c (of t.member (known v))) (BadSerial (next_serial c (of t.member (known v)))) None f in
          serials_go_on (submissions v.sent) t c serial commands k.lawful.serials
          (eqb-true serial (next_serial c (of t.member (known v))) same.0 ∙ ap (λ j. next_serial c (of j (known v))) e ∙ ap (next_serial c) k.own) caller

  serials_taken : (member caller : ℕ) → CountsFrom 0 (filter (is_by caller) (of member (known (took_own v m))))
  serials_taken member caller =
      decide (CountsFrom 0 (filter (is_by caller) (of member (known (took_own v m))))) member v.number
      (λ e. subst (λ l. CountsFrom 0 (filter (is_by caller) l)) (sym (ap (λ j. of j (known (took_own v m))) e ∙ own_taken)) (row_serials caller))
      (λ d. subst (λ l. CountsFrom 0 (filter (is_by caller) l)) (sym (of-taken_other member d)) (k.serials member caller))

  -- ---- What it keeps

  pub lawful_taken : IsLawful v.number v.group (v.sent ++ m ∷ [])
  lawful_taken = record {
    own = Each-append (λ n. (stamp_of n).member ≡ v.number) v.sent (m ∷ []) k.lawful.own (next.sender, tt);
    first = Each-append (λ n. (stamp_of n).place ≡ 0) v.sent (m ∷ []) k.lawful.first (next.first, tt);
    rising = Rising-push stamp_of v.sent m k.lawful.rising sent_before;
    clocks_in_range = Each-append (λ n. (stamp_of n).clock ≤ last_clock) v.sent (m ∷ []) k.lawful.clocks_in_range (next.range, tt);
    within_limit = let a : length v.sent < v.group.sent_limit = next.room in omega (arith, length-append v.sent (m ∷ []));
    batches = Each-append (λ n. has_bad_batch n ≡ false) v.sent (m ∷ []) k.lawful.batches (next.batch, tt);
    serials = λ caller. subst (λ l. CountsFrom 0 (filter (is_by caller) l)) (sym sent_taken) (row_serials caller);
  }

  -- what holds of each known command and of the new ones
  each_taken : (P : Submission → Type 0) → Each P (known v) → Each P xs → Each P (known (took_own v m))
  each_taken P a b = subst (Each P) (sym known_taken) (Each-append P (known v) xs a b)

  -- what is asked of the commands of others is not asked of the new ones
  not_own : (Q : Submission → Type 0) → Each (λ x. (x.stamp.member ≡ v.number → ⊥) → Q x) xs
  not_own Q = Each-weaker (λ (x : Submission). x.stamp.member ≡ v.number) (λ x. (x.stamp.member ≡ v.number → ⊥) → Q x) xs (λ x e n. absurd (n e)) own_commands

  clock_weaker : (o : Option Stamp) → IsClockAbove o v.clock → IsClockAbove o (max v.clock s.clock)
  clock_weaker None b = tt
  clock_weaker (Some t) b = omega arith

  pub keeps_taken : IsMember (took_own v m)
  keeps_taken = record {
    group = k.group;
    low = k.low;
    high = k.high;
    reads = k.reads;
    latests = k.latests;
    lawful = lawful_taken;
    front = k.front;
    policy = k.policy;
    own = own_taken ∙ sym sent_taken;
    others = each_taken (λ y. IsNumber v.group y.stamp.member) k.others (Each-commands (λ t. IsNumber v.group t.member) (λ t n. n) m (subst (IsNumber v.group) (sym next.sender) (record { low = k.low; high = k.high })));
    rising = subst Rising (sym known_taken)
        (Rising-append submitted_at (known v) xs k.rising (own_rising m)
        (Each-weaker (λ (y : Submission). IsBefore y.stamp s) (λ y. Each (λ x. IsBefore (submitted_at y) (submitted_at x)) xs) (known v) (λ y h. Each-commands (λ t. IsBefore y.stamp t) (λ t. before_next y.stamp t) m h) known_before));
    serials = serials_taken;
    passed = k.passed;
    covered = each_taken (λ y. (y.stamp.member ≡ v.number → ⊥) → IsCovered (latest_of v y.stamp.member) y.stamp.member y.stamp) k.covered (not_own (λ y. IsCovered (latest_of v y.stamp.member) y.stamp.member y.stamp));
    clock_of_sent = Each-append (λ n. (stamp_of n).clock ≤ max v.clock s.clock) v.sent (m ∷ []) (Each-weaker (λ n. (stamp_of n).clock ≤ v.clock) (λ n. (stamp_of n).clock ≤ max v.clock s.clock) v.sent (λ n h. omega arith) k.clock_of_sent) (omega arith, tt);
    clock_of_known = each_taken (λ y. y.stamp.clock ≤ max v.clock s.clock) (Each-weaker (λ (y : Submission). y.stamp.clock ≤ v.clock) (λ y. y.stamp.clock ≤ max v.clock s.clock) (known v) (λ y h. omega arith) k.clock_of_known)
        (Each-commands (λ t. t.clock ≤ max v.clock s.clock) (λ t e. e) m (omega arith));
    clock_of_others = each_taken (λ y. (y.stamp.member ≡ v.number → ⊥) → y.stamp.clock < max v.clock s.clock)
        (Each-weaker (λ (y : Submission). (y.stamp.member ≡ v.number → ⊥) → y.stamp.clock < v.clock) (λ y. (y.stamp.member ≡ v.number → ⊥) → y.stamp.clock < max v.clock s.clock) (known v) (λ y h n. let a : y.stamp.clock < v.clock = h n in omega arith) k.clock_of_others)
        (not_own (λ y. y.stamp.clock < max v.clock s.clock));
    clock_of_latest = λ j is. clock_weaker (latest_of v j) (k.clock_of_latest j is);
    clock_in_range = let a : v.clock ≤ last_clock = k.clock_in_range in let b : s.clock ≤ last_clock = next.range in omega arith;
    acknowledged = each_taken (λ y. (y.stamp.member ≡ v.number → ⊥) → has_later (v.sent ++ m ∷ []) y.stamp ≡ true)
        (Each-weaker (λ (y : Submission). (y.stamp.member ≡ v.number → ⊥) → has_later v.sent y.stamp ≡ true) (λ y. (y.stamp.member ≡ v.number → ⊥) → has_later (v.sent ++ m ∷ []) y.stamp ≡ true) (known v)
        (λ y h n. list_any-append (λ n. is_before y.stamp (stamp_of n)) v.sent (m ∷ []) ∙ or_left _ _ (h n)) k.acknowledged) (not_own (λ y. has_later (v.sent ++ m ∷ []) y.stamp ≡ true));
  }

  -- and what it has read of another
  pub taken_reads : (j : ℕ) (messages : List Message) → (j ≡ v.number → ⊥) → HasReadOf v j messages → HasReadOf (took_own v m) j messages
  taken_reads j messages d r = stays_read v (took_own v m) j messages refl refl (of-taken_other j d) r

-- ---- What stands in a lawful row is never refused

abbrev following : ℕ → Stamp → ℕ → List Command → List Submission
following c t serial commands = filter (is_by c) (in_turn (next_place t) c (suc serial) commands)

module _ (v : Member) (m : Message) (more : List Message) (k : IsMember v) (l : IsLawful v.number v.group (v.sent ++ m ∷ more)) where
  here : IsLawful v.number v.group (v.sent ++ m ∷ [])
  here = Lawful-left v.number v.group (v.sent ++ m ∷ []) more (subst (IsLawful v.number v.group) (sym (append_assoc v.sent (m ∷ []) more)) l)

  comes_after : is_after (last_stamp stamp_of v.sent) (stamp_of m) ≡ true
  comes_after = go (last_stamp stamp_of v.sent) refl
    where
      go : (o : Option Stamp) → last_stamp stamp_of v.sent ≡ o → is_after o (stamp_of m) ≡ true
      go None e = refl
      go (Some t) e = true_before t (stamp_of m) (last_has stamp_of (λ u. IsBefore u (stamp_of m)) v.sent t (Each-weaker (λ n. Each (λ p. IsBefore (stamp_of n) (stamp_of p)) (m ∷ [])) (λ n. IsBefore (stamp_of n) (stamp_of m)) v.sent (λ n h. h.0) (Rising-across stamp_of v.sent (m ∷ []) here.rising)) e)

  serial_is_next : serial_refusal v m ≡ None
  serial_is_next = go m (Each-right (λ n. (stamp_of n).member ≡ v.number) v.sent (m ∷ []) here.own).0 (Each-right (λ n. has_bad_batch n ≡ false) v.sent (m ∷ []) here.batches).0 here.serials
    where
      equal : (a b : ℕ) → a ≡ b → (a == b) ≡ true
      equal a b e = grind (arith, nat_tests)

      go : (z : Message) → (stamp_of z).member ≡ v.number → has_bad_batch z ≡ false → ((caller : ℕ) → CountsFrom 0 (filter (is_by caller) (submissions (v.sent ++ z ∷ [])))) → serial_refusal v z ≡ None
      go (Ack t) e b f = refl
      go (Batch t c serial []) e b f = absurd (true≢false b)
      go (Batch t c serial (command ∷ commands)) e b f =
          let x : Submission = record { stamp = t; caller = c; serial = serial; command = command } in
          let rest : List Submission = submissions_of (Batch t c serial (command ∷ commands)) in
          let own : (c == c) ≡ true = equal c c refl in
          let parts : filter (is_by c) (submissions (v.sent ++ Batch t c serial (command ∷ commands) ∷ [])) ≡ filter (is_by c) (submissions v.sent) ++ filter (is_by c) rest =
          ap (filter (is_by c)) (submissions-append v.sent (Batch t c serial (command ∷ commands) ∷ []) ∙ ap (λ q. submissions v.sent ++ q) (append-nil rest)) ∙ filter-append (is_by c) (submissions v.sent) rest in
          let first : filter (is_by c) rest ≡ x ∷ (following c t serial commands) = ap (λ b. cond b (x ∷ (following c t serial commands)) ((following c t serial commands))) own in
          let counts : CountsFrom 0 (filter (is_by c) (submissions v.sent) ++ x ∷ (following c t serial commands)) = subst (CountsFrom 0) (parts ∙ ap (λ q. filter (is_by c) (submissions v.sent) ++ q) first) (f c) in
          let number : serial ≡ 0 + length (filter (is_by c) (submissions v.sent)) = CountsFrom-next 0 (filter (is_by c) (submissions v.sent)) x ((following c t serial commands)) counts in
          let same : serial ≡ next_serial c (of t.member (known v)) = (let z : serial ≡ length (filter (is_by c) (submissions v.sent)) = omega arith in z) ∙ ap (next_serial c) (sym k.own) ∙ ap (λ j. next_serial c (of j (known v))) (sym e) in
          ap (λ b. cond b None (Some (BadSerial (next_serial c (of t.member (known v)))))) (equal serial (next_serial c (of t.member (known v))) same)

  pub never_refused : own_refusal v (length v.sent + 1) m ≡ None
  never_refused =
      let s = stamp_of m in
      let own : (s.member == v.number) ≡ true = equal s.member v.number (Each-right (λ n. (stamp_of n).member ≡ v.number) v.sent (m ∷ []) here.own).0 in
      let first : (s.place == 0) ≡ true = equal s.place 0 (Each-right (λ n. (stamp_of n).place ≡ 0) v.sent (m ∷ []) here.first).0 in
      let same : nat_lt (length v.sent + 1) (length v.sent + 1) ≡ false = self (length v.sent + 1) in
      let batch : has_bad_batch m ≡ false = (Each-right (λ n. has_bad_batch n ≡ false) v.sent (m ∷ []) here.batches).0 in
      let range : nat_lt last_clock s.clock ≡ false = below last_clock s.clock (Each-right (λ n. (stamp_of n).clock ≤ last_clock) v.sent (m ∷ []) here.clocks_in_range).0 in
      let room : nat_le v.group.sent_limit (length v.sent) ≡ false = above v.group.sent_limit (length v.sent) (let a : length (v.sent ++ m ∷ []) ≤ v.group.sent_limit = here.within_limit in omega (arith, length-append v.sent (m ∷ []))) in
      rw (same, own, first, comes_after, batch, range, room) serial_is_next
    where
      equal : (a b : ℕ) → a ≡ b → (a == b) ≡ true
      equal a b e = grind (arith, nat_tests)

      self : (a : ℕ) → nat_lt a a ≡ false
      self a = grind (arith, nat_tests)

      below : (a b : ℕ) → b ≤ a → nat_lt a b ≡ false
      below a b e = grind (arith, nat_tests)

      above : (a b : ℕ) → b < a → nat_le a b ≡ false
      above a b e = grind (arith, nat_tests)

-- ---- A submit is taking what the member sends next

pub submit_takes : (v : Member) (caller serial : ℕ) (commands : List Command) → submitted v caller serial commands ≡ took_own v (batch v caller serial commands)
submit_takes v caller serial commands =
    ap (λ (c : ℕ). let n : Member = record v { clock = c; sent = v.sent ++ batch v caller serial commands ∷ []; held = v.held ++ submissions_of (batch v caller serial commands) } in n)
    (let z : v.clock + 1 ≡ max v.clock (v.clock + 1) = omega arith in z)

pub submit_is_taken : (v : Member) (caller serial : ℕ) (commands : List Command) → IsMember v → submit_refusal v.group (node_of v) caller serial (length commands) ≡ None → own_refusal v (length v.sent + 1) (batch v caller serial commands) ≡ None
submit_is_taken v caller serial commands k e = never_refused v (batch v caller serial commands) [] k (keeps_submit v caller serial commands e k).lawful
