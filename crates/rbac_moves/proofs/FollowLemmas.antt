-- An observer can take and receive what stands in the rows.
use Rattle.std.proofs.Common.{ℕ, suc, Bool, true, false, cond, nat_lt, nat_le, ◌≡◌, ◌≤◌, ◌<◌, ◌+◌, ◌==◌, ◌&&◌, List, [], ◌∷◌, ◌++◌, length, refl, sym, ap, subst, ◌∙◌, arith, true≢false, append-nil, append_assoc, Option, Some, None}
use Rattle.std.specs.List.{AllByRecursion as Each, filter}
use Rattle.std.proofs.lemmas.Bool.{ne_eqb}
use Rattle.std.proofs.lemmas.Bool.Decides.{nat_tests}
use Rattle.std.proofs.lemmas.List.Elements.{filter-append}
use Rattle.rbac_words.specs.Limits.{last_clock}
use Rattle.rbac_words.specs.Stamp.{IsBefore, is_after, last_stamp}
use Rattle.rbac_words.specs.Message.{stamp_of, submissions_of, submissions, next_place, in_turn, has_bad_batch, has_later, is_by, next_serial, CountsFrom, IsLawful}
use Rattle.rbac_words.specs.Front.{is_of}
use Rattle.rbac_words.specs.World.{read_of, room_refusal}
use Rattle.rbac_words.specs.Keeping.Links.{next_of, link_refusal}
use Rattle.rbac_words.specs.Keeping.Member.{Member, IsMember, IsNumber, node_of, links_of, latest_of, known, or_else, batch_refusal, serial_refusal, message_refusal}
use Rattle.rbac_words.specs.Keeping.Members.{HasTaken}
use Rattle.rbac_terms.specs.declared.command.Command.{Command}
use Rattle.rbac_words.specs.declared.event.Refusal.{Refusal}
use Rattle.rbac_words.specs.declared.event.Refusal.TheVariants.{BadSerial}
use Rattle.rbac_words.specs.declared.message.Message.{Message}
use Rattle.rbac_words.specs.declared.message.Message.TheVariants.{Batch, Ack}
use Rattle.rbac_words.specs.declared.message.Submission.{Submission}
use Rattle.rbac_words.specs.declared.stamp.Stamp.{Stamp}
use Rattle.sorted_keys.proofs.Lists.{Each-right, Each-weaker}
use Rattle.rbac_order.proofs.StampLemmas.{true_before, last_has, Rising-across}
use Rattle.rbac_order.proofs.MessageLemmas.{submissions-append, Lawful-left, CountsFrom-next}
use Rattle.rbac_order.proofs.SenderLemmas.{of}
use Rattle.rbac_order.proofs.RangeLemmas.{is_in_range}
use Rattle.rbac_moves.specs.Seal.{wants_answer}
use Rattle.rbac_moves.proofs.SealMoveLemmas.{unanswered, room_unanswered}

-- ---- What a member has taken needs no answer of it any more

-- of messages whose commands were all answered
answered_all : (sent : List Message) (ms : List Message) → Each (λ (x : Submission). has_later sent x.stamp ≡ true) (submissions ms) → Each (λ m. wants_answer sent m ≡ false) ms
answered_all sent [] a = tt
answered_all sent (Ack s ∷ ms) a = (refl, answered_all sent ms a)
answered_all sent (Batch s caller serial [] ∷ ms) a = (refl, answered_all sent ms a)
answered_all sent (Batch s caller serial (c ∷ cs) ∷ ms) a =
    (unanswered sent (Batch s caller serial (c ∷ cs)) a.0, answered_all sent ms (Each-right (λ (x : Submission). has_later sent x.stamp ≡ true) (submissions_of (Batch s caller serial (c ∷ cs))) (submissions ms) a))

pub no_answer : (u : Member) (k : ℕ) (taken : List Message) → IsMember u → (k ≡ u.number → ⊥) → HasTaken u k taken → Each (λ m. wants_answer u.sent m ≡ false) taken
no_answer u k taken kept d t =
    answered_all u.sent taken (subst (Each (λ (x : Submission). has_later u.sent x.stamp ≡ true)) t.commands (of_another (known u) kept.acknowledged))
  where
    of_another : (xs : List Submission) → Each (λ (x : Submission). (x.stamp.member ≡ u.number → ⊥) → has_later u.sent x.stamp ≡ true) xs → Each (λ (x : Submission). has_later u.sent x.stamp ≡ true) (of k xs)
    of_another [] a = tt
    of_another (x ∷ xs) a = go (is_of k x) refl (of_another xs a.1)
      where
        same : (i j : ℕ) → (i == j) ≡ true → i ≡ j
        same i j e = grind (arith, nat_tests)

        go : (b : Bool) → is_of k x ≡ b → Each (λ (y : Submission). has_later u.sent y.stamp ≡ true) (of k xs) → Each (λ (y : Submission). has_later u.sent y.stamp ≡ true) (cond b (x ∷ of k xs) (of k xs))
        go true e on = (a.0 (λ f. d (sym (same x.stamp.member k e) ∙ f)), on)
        go false e on = on

-- ---- The next message of another row is not refused

abbrev following : ℕ → Stamp → ℕ → List Command → List Submission
following c t serial commands = filter (is_by c) (in_turn (next_place t) c (suc serial) commands)

equal : (a b : ℕ) → a ≡ b → (a == b) ≡ true
equal a b e = grind (arith, nat_tests)

module _ (v : Member) (k : ℕ) (m : Message) (taken more : List Message) (kept : IsMember v) (n : IsNumber v.group k) (d : k ≡ v.number → ⊥) (t : HasTaken v k taken) (l : IsLawful k v.group (taken ++ m ∷ more)) where
  here : IsLawful k v.group (taken ++ m ∷ [])
  here = Lawful-left k v.group (taken ++ m ∷ []) more (subst (IsLawful k v.group) (sym (append_assoc taken (m ∷ []) more)) l)

  comes_after : is_after (latest_of v k) (stamp_of m) ≡ true
  comes_after = ap (λ o. is_after o (stamp_of m)) t.latest ∙ go (last_stamp stamp_of taken) refl
    where
      go : (o : Option Stamp) → last_stamp stamp_of taken ≡ o → is_after o (stamp_of m) ≡ true
      go None e = refl
      go (Some s) e = true_before s (stamp_of m) (last_has stamp_of (λ u. IsBefore u (stamp_of m)) taken s (Each-weaker (λ j. Each (λ p. IsBefore (stamp_of j) (stamp_of p)) (m ∷ [])) (λ j. IsBefore (stamp_of j) (stamp_of m)) taken (λ j h. h.0) (Rising-across stamp_of taken (m ∷ []) here.rising)) e)

  serial_is_next : serial_refusal v m ≡ None
  serial_is_next = go m (Each-right (λ j. (stamp_of j).member ≡ k) taken (m ∷ []) here.own).0 (Each-right (λ j. has_bad_batch j ≡ false) taken (m ∷ []) here.batches).0 here.serials
    where
      go : (z : Message) → (stamp_of z).member ≡ k → has_bad_batch z ≡ false → ((caller : ℕ) → CountsFrom 0 (filter (is_by caller) (submissions (taken ++ z ∷ [])))) → serial_refusal v z ≡ None
      go (Ack s) e b f = refl
      go (Batch s c serial []) e b f = absurd (true≢false b)
      go (Batch s c serial (command ∷ commands)) e b f =
          let x : Submission = record { stamp = s; caller = c; serial = serial; command = command } in
          let rest : List Submission = submissions_of (Batch s c serial (command ∷ commands)) in
          let parts : filter (is_by c) (submissions (taken ++ Batch s c serial (command ∷ commands) ∷ [])) ≡ filter (is_by c) (submissions taken) ++ filter (is_by c) rest =
          ap (filter (is_by c)) (submissions-append taken (Batch s c serial (command ∷ commands) ∷ []) ∙ ap (λ q. submissions taken ++ q) (append-nil rest)) ∙ filter-append (is_by c) (submissions taken) rest in
          let first : filter (is_by c) rest ≡ x ∷ following c s serial commands = ap (λ b. cond b (x ∷ following c s serial commands) (following c s serial commands)) (equal c c refl) in
          let counts : CountsFrom 0 (filter (is_by c) (submissions taken) ++ x ∷ following c s serial commands) = subst (CountsFrom 0) (parts ∙ ap (λ q. filter (is_by c) (submissions taken) ++ q) first) (f c) in
          let number : serial ≡ 0 + length (filter (is_by c) (submissions taken)) = CountsFrom-next 0 (filter (is_by c) (submissions taken)) x (following c s serial commands) counts in
          let same : serial ≡ next_serial c (of s.member (known v)) = (let z : serial ≡ length (filter (is_by c) (submissions taken)) = omega arith in z) ∙ ap (next_serial c) (sym t.commands) ∙ ap (λ j. next_serial c (of j (known v))) (sym e) in
          ap (λ b. cond b None (Some (BadSerial (next_serial c (of s.member (known v)))))) (equal serial (next_serial c (of s.member (known v))) same)

  link_takes : link_refusal (links_of v) k (length taken + 1) (stamp_of m) ≡ None
  link_takes =
      let low : 1 ≤ k = n.low in
      let high : k ≤ length v.read = (let a : k ≤ v.group.members = n.high in let b : length v.read ≡ v.group.members = kept.reads in omega arith) in
      let linked : (nat_le 1 k && nat_le k (length v.read)) ≡ true = is_in_range k (length v.read) low high in
      let other : (k == v.number) ≡ false = ne_eqb k v.number d in
      let count : read_of (node_of v) k ≡ length taken = t.count in
      let next : next_of (links_of v) k ≡ length taken + 1 = ap (λ j. j + 1) count in
      let same : nat_lt (length taken + 1) (length taken + 1) ≡ false = self (length taken + 1) in
      let own : ((stamp_of m).member == k) ≡ true = equal (stamp_of m).member k (Each-right (λ j. (stamp_of j).member ≡ k) taken (m ∷ []) here.own).0 in
      let first : ((stamp_of m).place == 0) ≡ true = equal (stamp_of m).place 0 (Each-right (λ j. (stamp_of j).place ≡ 0) taken (m ∷ []) here.first).0 in
      rw (linked, other, next, same, own, first, comes_after) refl
    where
      self : (a : ℕ) → nat_lt a a ≡ false
      self a = grind (arith, nat_tests)

  pub next_never_refused : wants_answer v.sent m ≡ false → v.clock < last_clock → (stamp_of m).clock < last_clock → message_refusal v k (length taken + 1) m ≡ None
  next_never_refused quiet low below =
      four (link_refusal (links_of v) k (length taken + 1) (stamp_of m)) (batch_refusal m) (room_refusal v.group (node_of v) m) (serial_refusal v m) link_takes
      (let good : has_bad_batch m ≡ false = (Each-right (λ j. has_bad_batch j ≡ false) taken (m ∷ []) here.batches).0 in rw good refl)
      (room_unanswered v m quiet low below) serial_is_next
    where
      four : (a b c e : Option Refusal) → a ≡ None → b ≡ None → c ≡ None → e ≡ None → or_else a (or_else b (or_else c e)) ≡ None
      four a b c e p q r s = rw (p, q, r, s) refl
