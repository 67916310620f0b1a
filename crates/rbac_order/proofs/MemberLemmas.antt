-- What a member keeps: as it is founded, by a submit, by a delivery and by a receipt.
use Rattle.std.proofs.Common.{ℕ, zero, suc, Bool, true, false, cond, not, max, ◌≡◌, ◌≤◌, ◌<◌, ◌+◌, ◌-◌, ◌==◌, ◌||◌, ◌&&◌, List, [], ◌∷◌, ◌++◌, length, map, drop, get_or, set, replicate, refl, sym, ap, subst, ◌∙◌, arith, true≢false, append_assoc, append-nil, length-append, length-set, get_or-set_same, get_or-set_other, nat_le, nat_lt, Option, Some, None}
use Rattle.std.specs.List.{AllByRecursion as Each, filter, list_all, list_any}
use Rattle.std.proofs.lemmas.Bool.{or_left, or_right, ne_eqb}
use Rattle.std.proofs.lemmas.Bool.Decides.{nat_tests}
use Rattle.std.proofs.lemmas.List.{length-replicate}
use Rattle.std.proofs.lemmas.List.Elements.{filter-append}
use Rattle.std.proofs.lemmas.List.Folds.{list_any-append}
use Rattle.rbac_words.specs.Limits.{last_clock}
use Rattle.rbac_terms.specs.Vocabulary.{Vocabulary}
use Rattle.rbac_words.specs.Group.{Group, IsGroup}
use Rattle.rbac_terms.specs.State.{State, founding_state}
use Rattle.rbac_terms.specs.Effect.{effect, reply}
use Rattle.rbac_terms.specs.Replay.{state_after, replies}
use Rattle.rbac_words.specs.Stamp.{IsBefore, is_before, IsAfter, has_passed, insert_all, last_stamp}
use Rattle.rbac_words.specs.Message.{stamp_of, submitted_at, next_place, submissions_of, is_bad_batch, has_bad_batch, submissions, submission_of, commands_of, has_later, is_by, next_serial, CountsFrom, IsLawful}
use Rattle.rbac_words.specs.Front.{command_of, is_of, IsLegalFront}
use Rattle.rbac_words.specs.World.{stamp, read_of, submit_refusal, least, must_acknowledge, acks, room_refusal, is_sent_full}
use Rattle.rbac_words.specs.Keeping.Member.{Member, node_of, founded, latest_of, known, batch, submitted, received, numbers, is_passed_by_all, if_passed, due_at, delivery, delivered, deliver_due, IsNumber, IsCovered, IsClockAbove, IsMember, IsNext}
use Rattle.rbac_words.specs.declared.event.Refusal.{Refusal}
use Rattle.rbac_words.specs.declared.event.Refusal.TheVariants.{BadBatch, ClockFull, SentFull, BadSerial}
use Rattle.rbac_terms.specs.declared.command.Command.{Command}
use Rattle.rbac_words.specs.declared.message.Message.{Message}
use Rattle.rbac_words.specs.declared.message.Message.TheVariants.{Ack}
use Rattle.rbac_words.specs.declared.message.Submission.{Submission}
use Rattle.rbac_words.specs.declared.record.Record.{Record}
use Rattle.rbac_words.specs.declared.stamp.Stamp.{Stamp}
use Rattle.sorted_keys.proofs.Lists.{Each-append, Each-left, Each-weaker, Each-both, Each-filter, map-push}
use Rattle.rbac_order.proofs.StampLemmas.{earlier, IsBeside, before_next, message_above, sent_above, before_trans, before_true, true_before, Rising-append, Rising-push, Rising-left, insert_all_above, Each-insert_all, last_has, after_last}
use Rattle.rbac_order.proofs.MessageLemmas.{submissions-append, CountsFrom-left, serials_go_on, StaysByPlace, Each-commands, beside_message, own_rising}
use Rattle.rbac_order.proofs.ReplayLemmas.{state_after-push, replies-push}
use Rattle.rbac_order.proofs.SenderLemmas.{of, Rising, decide, is_of-no, of_member, of-none, of-all, put_all, IsPut, of-insert_all_other}

-- ---- Founding

abbrev pub none : Option Stamp
none = None

pub get_or-none : (n i : ℕ) → get_or (replicate n none) i none ≡ none
get_or-none zero i = refl
get_or-none (suc n) zero = refl
get_or-none (suc n) (suc i) = get_or-none n i

pub keeps_founded : (group : Group) (number : ℕ) (vocabulary : Vocabulary) → IsGroup group → 1 ≤ number → number ≤ group.members → IsMember (founded group number vocabulary)
keeps_founded group number vocabulary g low high = record {
  group = g;
  low = low;
  high = high;
  reads = length-replicate group.members 0;
  latests = length-replicate group.members none;
  lawful = record { own = tt; first = tt; rising = tt; clocks_in_range = tt; within_limit = omega (arith, g.some_sent); batches = tt; serials = λ caller. tt };
  front = record { rising = tt; answered = refl; serials = λ member caller. tt };
  policy = refl;
  own = refl;
  others = tt;
  rising = tt;
  serials = λ member caller. tt;
  passed = λ k is other. tt;
  covered = tt;
  clock_of_sent = tt;
  clock_of_known = tt;
  clock_of_others = tt;
  clock_of_latest = λ k is. subst (λ (o : Option Stamp). IsClockAbove o group.clock) (sym (get_or-none group.members (k - 1))) tt;
  clock_in_range = g.clock_in_range;
  acknowledged = tt;
}

-- ---- A submit

clock_weaker : (o : Option Stamp) (m n : ℕ) → m ≤ n → IsClockAbove o m → IsClockAbove o n
clock_weaker None m n l b = tt
clock_weaker (Some s) m n l b = omega arith

later-append : (ms ns : List Message) (s : Stamp) → has_later ms s ≡ true → has_later (ms ++ ns) s ≡ true
later-append ms ns s e = list_any-append (λ m. is_before s (stamp_of m)) ms ns ∙ or_left _ _ e

-- what another member sent after a message it sent after each of its commands
later_beside : (k : ℕ) (s t : Stamp) (ms : List Message) → IsBeside s t → (s.member ≡ k → ⊥) → Each (λ m. (stamp_of m).member ≡ k) ms → has_later ms s ≡ true → has_later ms t ≡ true
later_beside k s t [] b other own e = e
later_beside k s t (m ∷ ms) b other own e = go (later_beside k s t ms b other own.1) (is_before s (stamp_of m)) refl e
  where
    go : (has_later ms s ≡ true → has_later ms t ≡ true) → (c : Bool) → is_before s (stamp_of m) ≡ c → (c || has_later ms s) ≡ true → has_later (m ∷ ms) t ≡ true
    go rest true f g = or_left _ _ (true_before t (stamp_of m) (sent_above s t (stamp_of m) b (λ h. other (sym h ∙ own.0)) (before_true s (stamp_of m) f)))
    go rest false f g = or_right (is_before t (stamp_of m)) _ (rest g)

-- a message that is sent after the others keeps the sent list lawful
sent_lawfully : (v : Member) (m : Message) → (stamp_of m).member ≡ v.number → (stamp_of m).place ≡ 0 → has_bad_batch m ≡ false → v.clock < (stamp_of m).clock → (stamp_of m).clock ≤ last_clock → length v.sent < v.group.sent_limit
    → ((caller : ℕ) → CountsFrom 0 (filter (is_by caller) (submissions (v.sent ++ m ∷ [])))) → IsMember v → IsLawful v.number v.group (v.sent ++ m ∷ [])
sent_lawfully v m own first batch above range room serials k = record {
  own = Each-append (λ n. (stamp_of n).member ≡ v.number) v.sent (m ∷ []) k.lawful.own (own, tt);
  first = Each-append (λ n. (stamp_of n).place ≡ 0) v.sent (m ∷ []) k.lawful.first (first, tt);
  rising = Rising-push stamp_of v.sent m k.lawful.rising (Each-weaker (λ n. (stamp_of n).clock ≤ v.clock) (λ n. IsBefore (stamp_of n) (stamp_of m)) v.sent (λ n h. earlier (stamp_of n) (stamp_of m) (omega arith)) k.clock_of_sent);
  clocks_in_range = Each-append (λ n. (stamp_of n).clock ≤ last_clock) v.sent (m ∷ []) k.lawful.clocks_in_range (range, tt);
  within_limit = omega (arith, length-append v.sent (m ∷ []));
  batches = Each-append (λ n. has_bad_batch n ≡ false) v.sent (m ∷ []) k.lawful.batches (batch, tt);
  serials = serials;
}

module _ (v : Member) (caller serial : ℕ) (commands : List Command) where
  abbrev message_now : Message
  message_now = batch v caller serial commands

  abbrev commands_now : List Submission
  commands_now = submissions_of message_now

  pub known_submitted : known (submitted v caller serial commands) ≡ known v ++ commands_now
  known_submitted = sym (append_assoc (commands_of v.history) v.held commands_now)

  sent_submitted : submissions (submitted v caller serial commands).sent ≡ submissions v.sent ++ commands_now
  sent_submitted = submissions-append v.sent (message_now ∷ []) ∙ ap (λ l. submissions v.sent ++ l) (append-nil commands_now)

  own_now : Each (λ x. x.stamp.member ≡ v.number) commands_now
  own_now = Each-commands (λ t. t.member ≡ v.number) (λ t e. e) message_now refl

  -- the commands of another member stay as they are
  pub of-submitted_other : (j : ℕ) → (j ≡ v.number → ⊥) → of j (known (submitted v caller serial commands)) ≡ of j (known v)
  of-submitted_other j d =
      ap (of j) known_submitted ∙ filter-append (is_of j) (known v) commands_now
      ∙ ap (λ l. of j (known v) ++ l) (of-none j commands_now (Each-weaker (λ (x : Submission). x.stamp.member ≡ v.number) (λ x. x.stamp.member ≡ j → ⊥) commands_now (λ x e f. d (sym f ∙ e)) own_now))
      ∙ append-nil (of j (known v))

  own_submitted : IsMember v → of v.number (known v ++ commands_now) ≡ submissions v.sent ++ commands_now
  own_submitted k = filter-append (is_of v.number) (known v) commands_now ∙ ap (λ l. l ++ of v.number commands_now) k.own ∙ ap (λ l. submissions v.sent ++ l) (of-all v.number commands_now own_now)

  serials_submitted : IsMember v → serial ≡ next_serial caller (submissions v.sent) → (member caller' : ℕ) → CountsFrom 0 (filter (is_by caller') (of member (known (submitted v caller serial commands))))
  serials_submitted k next member caller' =
      decide (CountsFrom 0 (filter (is_by caller') (of member (known (submitted v caller serial commands))))) member v.number
      (λ e. subst (λ j. CountsFrom 0 (filter (is_by caller') (of j (known (submitted v caller serial commands))))) (sym e)
      (subst (λ l. CountsFrom 0 (filter (is_by caller') l)) (sym (ap (of v.number) known_submitted ∙ own_submitted k)) (serials_go_on (submissions v.sent) (stamp_of message_now) caller serial commands k.lawful.serials next caller')))
      (λ d. subst (λ l. CountsFrom 0 (filter (is_by caller') l)) (sym (of-submitted_other member d)) (k.serials member caller'))

  -- what holds of each known command and of the new ones
  each_submitted : (P : Submission → Type 0) → Each P (known v) → Each P commands_now → Each P (known (submitted v caller serial commands))
  each_submitted P a b = subst (Each P) (sym known_submitted) (Each-append P (known v) commands_now a b)

  -- what is asked of the commands of others is not asked of the new ones
  not_own : (Q : Submission → Type 0) → Each (λ x. (x.stamp.member ≡ v.number → ⊥) → Q x) commands_now
  not_own Q = Each-weaker (λ (x : Submission). x.stamp.member ≡ v.number) (λ x. (x.stamp.member ≡ v.number → ⊥) → Q x) commands_now (λ x e n. absurd (n e)) own_now

  clock_now : Each (λ x. x.stamp.clock ≡ v.clock + 1) commands_now
  clock_now = Each-commands (λ t. t.clock ≡ v.clock + 1) (λ t e. e) message_now refl

  pub keeps_submitted : is_bad_batch serial (length commands) ≡ false → v.clock < last_clock → length v.sent < v.group.sent_limit → serial ≡ next_serial caller (submissions v.sent) → IsMember v → IsMember (submitted v caller serial commands)
  keeps_submitted good clock room next k = record {
    group = k.group;
    low = k.low;
    high = k.high;
    reads = k.reads;
    latests = k.latests;
    lawful = sent_lawfully v message_now refl refl good (omega arith) (omega arith) room (subst (λ l. (c : ℕ) → CountsFrom 0 (filter (is_by c) l)) (sym sent_submitted) (serials_go_on (submissions v.sent) (stamp_of message_now) caller serial commands k.lawful.serials next)) k;
    front = k.front;
    policy = k.policy;
    own = ap (of v.number) known_submitted ∙ own_submitted k ∙ sym sent_submitted;
    others = each_submitted (λ y. IsNumber v.group y.stamp.member) k.others (Each-commands (λ t. IsNumber v.group t.member) (λ t n. n) message_now (record { low = k.low; high = k.high }));
    rising = subst Rising (sym known_submitted)
        (Rising-append submitted_at (known v) commands_now k.rising (own_rising message_now)
        (Each-weaker (λ (y : Submission). y.stamp.clock ≤ v.clock) (λ y. Each (λ x. IsBefore (submitted_at y) (submitted_at x)) commands_now) (known v)
        (λ y h. Each-weaker (λ (x : Submission). x.stamp.clock ≡ v.clock + 1) (λ x. IsBefore (submitted_at y) (submitted_at x)) commands_now (λ x e. earlier (submitted_at y) (submitted_at x) (omega arith)) clock_now) k.clock_of_known));
    serials = serials_submitted k next;
    passed = k.passed;
    covered = each_submitted (λ y. (y.stamp.member ≡ v.number → ⊥) → IsCovered (latest_of v y.stamp.member) y.stamp.member y.stamp) k.covered (not_own (λ y. IsCovered (latest_of v y.stamp.member) y.stamp.member y.stamp));
    clock_of_sent = Each-append (λ n. (stamp_of n).clock ≤ v.clock + 1) v.sent (message_now ∷ []) (Each-weaker (λ n. (stamp_of n).clock ≤ v.clock) (λ n. (stamp_of n).clock ≤ v.clock + 1) v.sent (λ n h. omega arith) k.clock_of_sent) (omega arith, tt);
    clock_of_known = each_submitted (λ y. y.stamp.clock ≤ v.clock + 1) (Each-weaker (λ (y : Submission). y.stamp.clock ≤ v.clock) (λ y. y.stamp.clock ≤ v.clock + 1) (known v) (λ y h. omega arith) k.clock_of_known)
        (Each-weaker (λ (y : Submission). y.stamp.clock ≡ v.clock + 1) (λ y. y.stamp.clock ≤ v.clock + 1) commands_now (λ y e. omega arith) clock_now);
    clock_of_others = each_submitted (λ y. (y.stamp.member ≡ v.number → ⊥) → y.stamp.clock < v.clock + 1)
        (Each-weaker (λ (y : Submission). y.stamp.clock ≤ v.clock) (λ y. (y.stamp.member ≡ v.number → ⊥) → y.stamp.clock < v.clock + 1) (known v) (λ y h n. omega arith) k.clock_of_known) (not_own (λ y. y.stamp.clock < v.clock + 1));
    clock_of_latest = λ j is. clock_weaker (latest_of v j) v.clock (v.clock + 1) (omega arith) (k.clock_of_latest j is);
    clock_in_range = omega arith;
    acknowledged = each_submitted (λ y. (y.stamp.member ≡ v.number → ⊥) → has_later (v.sent ++ message_now ∷ []) y.stamp ≡ true)
        (Each-weaker (λ (y : Submission). (y.stamp.member ≡ v.number → ⊥) → has_later v.sent y.stamp ≡ true) (λ y. (y.stamp.member ≡ v.number → ⊥) → has_later (v.sent ++ message_now ∷ []) y.stamp ≡ true) (known v)
        (λ y h n. later-append v.sent (message_now ∷ []) y.stamp (h n)) k.acknowledged) (not_own (λ y. has_later (v.sent ++ message_now ∷ []) y.stamp ≡ true));
  }

-- what a submit that is not refused has passed
pub record HasPassed (v : Member) (caller serial count : ℕ) : Type 0 where
  pub batch : is_bad_batch serial count ≡ false
  pub clock : v.clock < last_clock
  pub room : length v.sent < v.group.sent_limit
  pub next : serial ≡ next_serial caller (submissions v.sent)

pub passed_submit : (v : Member) (caller serial count : ℕ) → submit_refusal v.group (node_of v) caller serial count ≡ None → HasPassed v caller serial count
passed_submit v caller serial count e = batches (is_bad_batch serial count) refl e
  where
    serials : (b : Bool) → (serial == next_serial caller (submissions v.sent)) ≡ b → cond {A = Option Refusal} b None (Some (BadSerial (next_serial caller (submissions v.sent)))) ≡ None → serial ≡ next_serial caller (submissions v.sent)
    serials true f g = grind (arith, nat_tests)
    serials false f g = cc

    rooms : (b : Bool) → nat_le v.group.sent_limit (length v.sent) ≡ b
        → cond {A = Option Refusal} b (Some SentFull) (cond (serial == next_serial caller (submissions v.sent)) None (Some (BadSerial (next_serial caller (submissions v.sent))))) ≡ None
        → (length v.sent < v.group.sent_limit) × (serial ≡ next_serial caller (submissions v.sent))
    rooms true f g = cc
    rooms false f g = (grind (arith, nat_tests), serials (serial == next_serial caller (submissions v.sent)) refl g)

    clocks : (b : Bool) → nat_le last_clock v.clock ≡ b
        → cond {A = Option Refusal} b (Some ClockFull) (cond (nat_le v.group.sent_limit (length v.sent)) (Some SentFull) (cond (serial == next_serial caller (submissions v.sent)) None (Some (BadSerial (next_serial caller (submissions v.sent)))))) ≡ None
        → (v.clock < last_clock) × (length v.sent < v.group.sent_limit) × (serial ≡ next_serial caller (submissions v.sent))
    clocks true f g = cc
    clocks false f g = let rest = rooms (nat_le v.group.sent_limit (length v.sent)) refl g in (grind (arith, nat_tests), rest.0, rest.1)

    batches : (b : Bool) → is_bad_batch serial count ≡ b
        → cond {A = Option Refusal} b (Some BadBatch) (cond (nat_le last_clock v.clock) (Some ClockFull) (cond (nat_le v.group.sent_limit (length v.sent)) (Some SentFull) (cond (serial == next_serial caller (submissions v.sent)) None (Some (BadSerial (next_serial caller (submissions v.sent))))))) ≡ None
        → HasPassed v caller serial count
    batches true f g = cc
    batches false f g = let rest = clocks (nat_le last_clock v.clock) refl g in record { batch = f; clock = rest.0; room = rest.1; next = rest.2 }

pub keeps_submit : (v : Member) (caller serial : ℕ) (commands : List Command) → submit_refusal v.group (node_of v) caller serial (length commands) ≡ None → IsMember v → IsMember (submitted v caller serial commands)
keeps_submit v caller serial commands e k = let p = passed_submit v caller serial (length commands) e in keeps_submitted v caller serial commands p.batch p.clock p.room p.next k

-- ---- A delivery

-- a test of all numbers holds of each of them
all_numbers : (p : ℕ → Bool) (n j i : ℕ) → list_all p (numbers n j) ≡ true → i < n → p (suc (j + i)) ≡ true
all_numbers p zero j i e h = absurd (let g : ⊥ = omega arith in g)
all_numbers p (suc n) j zero e h = ap p (let g : suc (j + 0) ≡ suc j = omega arith in g) ∙ (both (p (suc j)) (list_all p (numbers n (suc j))) e).0
  where
    both : (a b : Bool) → (a && b) ≡ true → (a ≡ true) × (b ≡ true)
    both true b f = (refl, f)
    both false b f = absurd (true≢false (sym f))
all_numbers p (suc n) j (suc i) e h = ap p (let g : suc (j + suc i) ≡ suc (suc j + i) = omega arith in g) ∙ all_numbers p n (suc j) i (second (p (suc j)) (list_all p (numbers n (suc j))) e) (omega arith)
  where
    second : (a b : Bool) → (a && b) ≡ true → b ≡ true
    second true b f = f
    second false b f = absurd (true≢false (sym f))

pub passed_by_each : (v : Member) (x : Submission) → is_passed_by_all v x ≡ true → (k : ℕ) → IsNumber v.group k → (k ≡ v.number → ⊥) → (x.stamp.member ≡ k → ⊥) → has_passed (latest_of v k) x.stamp ≡ true
passed_by_each v x e k is other not_own =
    let low : 1 ≤ k = is.low in let high : k ≤ v.group.members = is.high in
    let one = all_numbers (λ j. (j == v.number || j == x.stamp.member) || has_passed (latest_of v j) x.stamp) v.group.members 0 (k - 1) e (omega arith) in
    let here = subst (λ j. ((j == v.number || j == x.stamp.member) || has_passed (latest_of v j) x.stamp) ≡ true) (let g : suc (0 + (k - 1)) ≡ k = omega arith in g) one in
    neither (k == v.number) (k == x.stamp.member) (has_passed (latest_of v k) x.stamp) (ne_eqb k v.number other) (ne_eqb k x.stamp.member (λ f. not_own (sym f))) here
  where
    neither : (a b c : Bool) → a ≡ false → b ≡ false → ((a || b) || c) ≡ true → c ≡ true
    neither true b c p q r = absurd (true≢false p)
    neither false true c p q r = absurd (true≢false q)
    neither false false c p q r = r

module _ (v : Member) (x : Submission) (rest : List Submission) (is : v.held ≡ x ∷ rest) where
  history_delivered : commands_of (delivered v x).history ≡ commands_of v.history ++ x ∷ []
  history_delivered = map-push submission_of v.history (delivery v x)

  held_delivered : (delivered v x).held ≡ rest
  held_delivered = ap (drop 1) is

  -- a delivery leaves what is known as it was
  pub known_delivered : known v ≡ known (delivered v x)
  known_delivered =
      ap (λ l. commands_of v.history ++ l) is ∙ sym (append_assoc (commands_of v.history) (x ∷ []) rest) ∙ ap (λ l. l ++ rest) (sym history_delivered)
      ∙ ap (λ l. commands_of (delivered v x).history ++ l) (sym held_delivered)

  commands_delivered : map command_of (commands_of (delivered v x).history) ≡ map command_of (commands_of v.history) ++ x.command ∷ []
  commands_delivered = ap (map command_of) history_delivered ∙ map-push command_of (commands_of v.history) x

  -- a caller's serials in the history are a first part of the known ones
  serials_delivered : IsMember v → (member caller : ℕ) → CountsFrom 0 (filter (is_by caller) (of member (commands_of (delivered v x).history)))
  serials_delivered k member caller =
      let h : List Submission = commands_of (delivered v x).history in let l : List Submission = (delivered v x).held in
      CountsFrom-left 0 (filter (is_by caller) (of member h)) (filter (is_by caller) (of member l))
      (subst (CountsFrom 0) (ap (λ q. filter (is_by caller) (of member q)) known_delivered ∙ ap (filter (is_by caller)) (filter-append (is_of member) h l) ∙ filter-append (is_by caller) (of member h) (of member l)) (k.serials member caller))

  -- the history stays a legal front
  front_delivered : IsMember v → IsLegalFront (founding_state v.vocabulary) (delivered v x).history
  front_delivered k = record {
    rising = Rising-left submitted_at (commands_of (delivered v x).history) (delivered v x).held (subst Rising known_delivered k.rising);
    answered =
        map-push (λ (r : Record). r.answer) v.history (delivery v x)
        ∙ ap (λ l. l ++ reply x.command v.policy ∷ []) k.front.answered
        ∙ ap (λ (s : State). replies (founding_state v.vocabulary) (map command_of (commands_of v.history)) ++ reply x.command s ∷ []) k.policy
        ∙ sym (replies-push (founding_state v.vocabulary) (map command_of (commands_of v.history)) x.command)
        ∙ ap (replies (founding_state v.vocabulary)) (sym commands_delivered);
    serials = serials_delivered k;
  }

  pub keeps_delivered : is_passed_by_all v x ≡ true → IsMember v → IsMember (delivered v x)
  keeps_delivered all k = record {
    group = k.group;
    low = k.low;
    high = k.high;
    reads = k.reads;
    latests = k.latests;
    lawful = k.lawful;
    front = front_delivered k;
    policy = ap (effect x.command) k.policy ∙ sym (state_after-push (founding_state v.vocabulary) (map command_of (commands_of v.history)) x.command) ∙ ap (state_after (founding_state v.vocabulary)) (sym commands_delivered);
    own = ap (of v.number) (sym known_delivered) ∙ k.own;
    others = subst (Each (λ y. IsNumber v.group y.stamp.member)) known_delivered k.others;
    rising = subst Rising known_delivered k.rising;
    serials = subst (λ l. (member caller : ℕ) → CountsFrom 0 (filter (is_by caller) (of member l))) known_delivered k.serials;
    passed = λ j number other.
        subst (Each (λ y. (y.stamp.member ≡ j → ⊥) → has_passed (latest_of v j) y.stamp ≡ true)) (sym history_delivered)
        (Each-append (λ y. (y.stamp.member ≡ j → ⊥) → has_passed (latest_of v j) y.stamp ≡ true) (commands_of v.history) (x ∷ []) (k.passed j number other) (passed_by_each v x all j number other, tt));
    covered = subst (Each (λ y. (y.stamp.member ≡ v.number → ⊥) → IsCovered (latest_of v y.stamp.member) y.stamp.member y.stamp)) known_delivered k.covered;
    clock_of_sent = k.clock_of_sent;
    clock_of_known = subst (Each (λ y. y.stamp.clock ≤ v.clock)) known_delivered k.clock_of_known;
    clock_of_others = subst (Each (λ y. (y.stamp.member ≡ v.number → ⊥) → y.stamp.clock < v.clock)) known_delivered k.clock_of_others;
    clock_of_latest = k.clock_of_latest;
    clock_in_range = k.clock_in_range;
    acknowledged = subst (Each (λ y. (y.stamp.member ≡ v.number → ⊥) → has_later v.sent y.stamp ≡ true)) known_delivered k.acknowledged;
  }

-- what is due is the least held command, and it is passed by all
pub record IsDue (v : Member) (x : Submission) : Type 0 where
  pub rest : List Submission
  pub held : v.held ≡ x ∷ rest
  pub passed : is_passed_by_all v x ≡ true

pub due_is : (v : Member) (x : Submission) → due_at v ≡ Some x → IsDue v x
due_is v x e = go v.held refl e
  where
    test : (y : Submission) (rest : List Submission) → v.held ≡ y ∷ rest → (b : Bool) → is_passed_by_all v y ≡ b → cond b (Some y) None ≡ Some x → IsDue v x
    test y rest f true g h = let same : y ≡ x = cc in record { rest = rest; held = f ∙ ap (λ z. z ∷ rest) same; passed = subst (λ z. is_passed_by_all v z ≡ true) same g }
    test y rest f false g h = let no : ⊥ = cc in absurd no

    go : (xs : List Submission) → v.held ≡ xs → if_passed v (least xs) ≡ Some x → IsDue v x
    go [] f h = let no : ⊥ = cc in absurd no
    go (y ∷ rest) f h = test y rest f (is_passed_by_all v y) refl h

pub keeps_deliver : (v : Member) → IsMember v → IsMember (deliver_due v (due_at v))
keeps_deliver v k = go (due_at v) refl
  where
    go : (o : Option Submission) → due_at v ≡ o → IsMember (deliver_due v o)
    go None e = k
    go (Some x) e = let d = due_is v x e in keeps_delivered v x d.rest d.held d.passed k

-- each other member than that of the last delivered command has passed it
pub passed_last : (v : Member) (t : Stamp) (k : ℕ) → IsMember v → last_stamp submitted_at (commands_of v.history) ≡ Some t → IsNumber v.group k → (k ≡ v.number → ⊥) → (k ≡ t.member → ⊥) → has_passed (latest_of v k) t ≡ true
passed_last v t k kept last number other d = last_has submitted_at (λ s. (s.member ≡ k → ⊥) → has_passed (latest_of v k) s ≡ true) (commands_of v.history) t (kept.passed k number other) last (λ e. d (sym e))

-- and what is held lies above it
pub held_above : (v : Member) (t : Stamp) → IsMember v → last_stamp submitted_at (commands_of v.history) ≡ Some t → Each (λ (x : Submission). IsBefore t x.stamp) v.held
held_above v t kept last = subst (λ o. Each (λ (x : Submission). IsAfter o x.stamp) v.held) last (after_last submitted_at (commands_of v.history) v.held kept.rising)

-- ---- A receipt

latest_same : (ls : List (Option Stamp)) (k : ℕ) (o : Option Stamp) → 1 ≤ k → k ≤ length ls → get_or (set ls (k - 1) o) (k - 1) none ≡ o
latest_same ls k o low high = get_or-set_same ls (k - 1) o none (omega arith)

latest_other : (ls : List (Option Stamp)) (k j : ℕ) (o : Option Stamp) → 1 ≤ k → 1 ≤ j → (j ≡ k → ⊥) → get_or (set ls (k - 1) o) (j - 1) none ≡ get_or ls (j - 1) none
latest_other ls k j o low also d = get_or-set_other ls (k - 1) (j - 1) o none (λ e. d (omega arith))

-- each later message of another member lies above the whole history
pub covered_history : (v : Member) (k : ℕ) → IsMember v → IsNumber v.group k → (k ≡ v.number → ⊥) → Each (λ x. IsCovered (latest_of v k) k x.stamp) (commands_of v.history)
covered_history v k kept number other =
    Each-weaker
    (λ x. ((x.stamp.member ≡ k → ⊥) → has_passed (latest_of v k) x.stamp ≡ true) × ((x.stamp.member ≡ v.number → ⊥) → IsCovered (latest_of v x.stamp.member) x.stamp.member x.stamp))
    (λ x. IsCovered (latest_of v k) k x.stamp) (commands_of v.history)
    (λ x p. decide (IsCovered (latest_of v k) k x.stamp) x.stamp.member k
    (λ s. subst (λ j. IsCovered (latest_of v j) j x.stamp) s (p.1 (λ f. other (sym s ∙ f))))
    (λ d. by_latest (latest_of v k) x.stamp (p.0 d)))
    (Each-both _ _ (commands_of v.history) (kept.passed k number other)
    (Each-left (λ x. (x.stamp.member ≡ v.number → ⊥) → IsCovered (latest_of v x.stamp.member) x.stamp.member x.stamp) (commands_of v.history) v.held kept.covered))
  where
    by_latest : (o : Option Stamp) (s : Stamp) → has_passed o s ≡ true → IsCovered o k s
    by_latest None s p t m z a = absurd (true≢false (sym p))
    by_latest (Some l) s p t m z a = before_trans s l t (before_true s l p) a

module _ (v : Member) (k : ℕ) (m : Message) (kept : IsMember v) (next : IsNext v k m) where
  abbrev s : Stamp
  s = stamp_of m

  abbrev latest : List (Option Stamp)
  latest = set v.latest (k - 1) (Some s)

  abbrev xs : List Submission
  xs = submissions_of m

  now_latest : get_or latest (k - 1) none ≡ Some s
  now_latest = latest_same v.latest k (Some s) next.number.low (let a : length v.latest ≡ v.group.members = kept.latests in let b : k ≤ v.group.members = next.number.high in omega arith)

  still_latest : (j : ℕ) → IsNumber v.group j → (j ≡ k → ⊥) → get_or latest (j - 1) none ≡ latest_of v j
  still_latest j number d = latest_other v.latest k j (Some s) next.number.low number.low d

  -- the history lies below the message
  history_below : Each (λ x. IsBefore x.stamp s) (commands_of v.history)
  history_below = Each-weaker (λ x. IsCovered (latest_of v k) k x.stamp) (λ x. IsBefore x.stamp s) (commands_of v.history) (λ x c. c s next.sender next.first next.after) (covered_history v k kept next.number next.other)

  -- and so do the known commands of its sender
  own_below : Each (λ y. IsBefore y.stamp s) (of k (known v))
  own_below =
      Each-weaker (λ y. ((y.stamp.member ≡ v.number → ⊥) → IsCovered (latest_of v y.stamp.member) y.stamp.member y.stamp) × (y.stamp.member ≡ k)) (λ y. IsBefore y.stamp s) (of k (known v))
      (λ y p. (p.0 (λ f. next.other (sym p.1 ∙ f))) s (next.sender ∙ sym p.1) next.first (subst (λ j. IsAfter (latest_of v j) s) (sym p.1) next.after))
      (Each-both _ (λ (y : Submission). y.stamp.member ≡ k) (of k (known v)) (Each-filter _ (is_of k) (known v) kept.covered) (members (known v)))
    where
      members : (ys : List Submission) → Each (λ (y : Submission). y.stamp.member ≡ k) (of k ys)
      members [] = tt
      members (y ∷ ys) = go (is_of k y) refl (members ys)
        where
          go : (b : Bool) → is_of k y ≡ b → Each (λ (z : Submission). z.stamp.member ≡ k) (of k ys) → Each (λ (z : Submission). z.stamp.member ≡ k) (cond b (y ∷ of k ys) (of k ys))
          go true e on = (of_member k y e, on)
          go false e on = on

  -- what holds of the message's stamp, whatever the place, holds of its commands'
  each_new : (P : Stamp → Type 0) → StaysByPlace P → P s → Each (λ x. P x.stamp) xs
  each_new P stays p = Each-commands P stays m p

  -- what lies below the message lies below its commands
  each_above : (ys : List Submission) → Each (λ y. IsBefore y.stamp s) ys → Each (λ x. Each (λ y. IsBefore y.stamp x.stamp) ys) xs
  each_above ys = each_new (λ t. Each (λ y. IsBefore y.stamp t) ys) (λ t. Each-weaker (λ y. IsBefore y.stamp t) (λ y. IsBefore y.stamp (next_place t)) ys (λ y. before_next y.stamp t))

  sender_of_new : Each (λ x. x.stamp.member ≡ k) xs
  sender_of_new = each_new (λ t. t.member ≡ k) (λ t e. e) next.sender

  pub put : IsPut k xs (known v)
  put = put_all k xs (known v) sender_of_new (own_rising m) kept.rising (each_above (of k (known v)) own_below)

  pub known_received : insert_all submitted_at xs (known v) ≡ known (received v k m)
  known_received = insert_all_above submitted_at xs (commands_of v.history) v.held (each_above (commands_of v.history) history_below)

  pub of-received_other : (j : ℕ) → (j ≡ k → ⊥) → of j (known (received v k m)) ≡ of j (known v)
  of-received_other j d = ap (of j) (sym known_received) ∙ of-insert_all_other j xs (known v) (Each-weaker (λ (x : Submission). x.stamp.member ≡ k) (λ x. is_of j x ≡ false) xs (λ x e. is_of-no j x (λ f. d (sym f ∙ e))) sender_of_new)

  pub of-received : of k (known (received v k m)) ≡ of k (known v) ++ xs
  of-received = ap (of k) (sym known_received) ∙ put.commands

  each_received : (P : Submission → Type 0) → Each P (known v) → Each P xs → Each P (known (received v k m))
  each_received P a b = subst (Each P) known_received (Each-insert_all submitted_at P xs (known v) b a)

  -- what is known, and its stamp's sender is of the group
  each_known : (P Q : Submission → Type 0) → ((x : Submission) → IsNumber v.group x.stamp.member → P x → Q x) → Each P (known v) → Each Q (known v)
  each_known P Q f a = Each-weaker (λ x. IsNumber v.group x.stamp.member × P x) Q (known v) (λ x h. f x h.0 h.1) (Each-both (λ x. IsNumber v.group x.stamp.member) P (known v) kept.others a)

  -- a member with this clock and sent list, which has taken the message
  abbrev pub taken_with : ℕ → List Message → Member
  taken_with clock sent = record v {
    clock = clock;
    sent = sent;
    read = set v.read (k - 1) (read_of (node_of v) k + 1);
    latest = latest;
    held = insert_all submitted_at xs v.held;
  }

  -- what is asked of that clock and that sent list
  pub record Suits (clock : ℕ) (sent : List Message) : Type 0 where
    pub lawful : IsLawful v.number v.group sent
    pub commands : submissions sent ≡ submissions v.sent
    pub clock_of_sent : Each (λ z. (stamp_of z).clock ≤ clock) sent
    pub above : v.clock ≤ clock
    pub above_message : (stamp_of m).clock < clock
    pub in_range : clock ≤ last_clock
    pub more : List Message
    pub goes_on : sent ≡ v.sent ++ more
    pub acknowledged : Each (λ (x : Submission). has_later sent x.stamp ≡ true) (submissions_of m)

  covered_received : Each (λ x. (x.stamp.member ≡ v.number → ⊥) → IsCovered (get_or latest (x.stamp.member - 1) none) x.stamp.member x.stamp) (known (received v k m))
  covered_received =
      each_received (λ x. (x.stamp.member ≡ v.number → ⊥) → IsCovered (get_or latest (x.stamp.member - 1) none) x.stamp.member x.stamp)
      (each_known _ (λ x. (x.stamp.member ≡ v.number → ⊥) → IsCovered (get_or latest (x.stamp.member - 1) none) x.stamp.member x.stamp) old kept.covered)
      (Each-weaker (λ x. IsBeside s x.stamp) (λ x. (x.stamp.member ≡ v.number → ⊥) → IsCovered (get_or latest (x.stamp.member - 1) none) x.stamp.member x.stamp) xs new (beside_message m))
    where
      new : (x : Submission) → IsBeside s x.stamp → (x.stamp.member ≡ v.number → ⊥) → IsCovered (get_or latest (x.stamp.member - 1) none) x.stamp.member x.stamp
      new x b n =
          subst (λ o. IsCovered o x.stamp.member x.stamp) (sym (ap (λ i. get_or latest (i - 1) none) (b.member ∙ next.sender) ∙ now_latest))
          (λ t mt pt h. message_above s x.stamp t b (mt ∙ b.member) pt h)

      old : (x : Submission) → IsNumber v.group x.stamp.member → ((x.stamp.member ≡ v.number → ⊥) → IsCovered (latest_of v x.stamp.member) x.stamp.member x.stamp)
          → (x.stamp.member ≡ v.number → ⊥) → IsCovered (get_or latest (x.stamp.member - 1) none) x.stamp.member x.stamp
      old x number p n =
          decide (IsCovered (get_or latest (x.stamp.member - 1) none) x.stamp.member x.stamp) x.stamp.member k
          (λ e. subst (λ o. IsCovered o x.stamp.member x.stamp) (sym (ap (λ i. get_or latest (i - 1) none) e ∙ now_latest))
          (λ t mt pt b. before_trans x.stamp s t (p n s (next.sender ∙ sym e) next.first (subst (λ i. IsAfter (latest_of v i) s) (sym e) next.after)) b))
          (λ d. subst (λ o. IsCovered o x.stamp.member x.stamp) (sym (still_latest x.stamp.member number d)) (p n))

  passed_received : (j : ℕ) → IsNumber v.group j → (j ≡ v.number → ⊥) → Each (λ x. (x.stamp.member ≡ j → ⊥) → has_passed (get_or latest (j - 1) none) x.stamp ≡ true) (commands_of v.history)
  passed_received j number other =
      decide (Each (λ x. (x.stamp.member ≡ j → ⊥) → has_passed (get_or latest (j - 1) none) x.stamp ≡ true) (commands_of v.history)) j k
      (λ e. Each-weaker (λ x. IsBefore x.stamp s) (λ x. (x.stamp.member ≡ j → ⊥) → has_passed (get_or latest (j - 1) none) x.stamp ≡ true) (commands_of v.history)
      (λ x b _. subst (λ o. has_passed o x.stamp ≡ true) (sym (ap (λ i. get_or latest (i - 1) none) e ∙ now_latest)) (true_before x.stamp s b)) history_below)
      (λ d. subst (λ o. Each (λ x. (x.stamp.member ≡ j → ⊥) → has_passed o x.stamp ≡ true) (commands_of v.history)) (sym (still_latest j number d)) (kept.passed j number other))

  serials_received : (member caller : ℕ) → CountsFrom 0 (filter (is_by caller) (of member (known (received v k m))))
  serials_received member caller =
      decide (CountsFrom 0 (filter (is_by caller) (of member (known (received v k m))))) member k
      (λ e. subst (λ j. CountsFrom 0 (filter (is_by caller) (of j (known (received v k m))))) (sym e) (subst (λ l. CountsFrom 0 (filter (is_by caller) l)) (sym of-received) (next.serials caller)))
      (λ d. subst (λ l. CountsFrom 0 (filter (is_by caller) l)) (sym (of-received_other member d)) (kept.serials member caller))

  keeps_taken : (clock : ℕ) (sent : List Message) → Suits clock sent → IsMember (taken_with clock sent)
  keeps_taken clock sent suits = record {
    group = kept.group;
    low = kept.low;
    high = kept.high;
    reads = length-set v.read (k - 1) (read_of (node_of v) k + 1) ∙ kept.reads;
    latests = length-set v.latest (k - 1) (Some s) ∙ kept.latests;
    lawful = suits.lawful;
    front = kept.front;
    policy = kept.policy;
    own = of-received_other v.number (λ e. next.other (sym e)) ∙ kept.own ∙ sym suits.commands;
    others = each_received (λ x. IsNumber v.group x.stamp.member) kept.others (each_new (λ t. IsNumber v.group t.member) (λ t n. n) (subst (IsNumber v.group) (sym next.sender) next.number));
    rising = subst Rising known_received put.rising;
    serials = serials_received;
    passed = passed_received;
    covered = covered_received;
    clock_of_sent = suits.clock_of_sent;
    clock_of_known = each_received (λ x. x.stamp.clock ≤ clock) (Each-weaker (λ (x : Submission). x.stamp.clock ≤ v.clock) (λ x. x.stamp.clock ≤ clock) (known v) (λ x h. let a : v.clock ≤ clock = suits.above in omega arith) kept.clock_of_known)
        (each_new (λ t. t.clock ≤ clock) (λ t h. h) (let a : s.clock < clock = suits.above_message in omega arith));
    clock_of_others = each_received (λ x. (x.stamp.member ≡ v.number → ⊥) → x.stamp.clock < clock)
        (Each-weaker (λ (x : Submission). (x.stamp.member ≡ v.number → ⊥) → x.stamp.clock < v.clock) (λ x. (x.stamp.member ≡ v.number → ⊥) → x.stamp.clock < clock) (known v)
        (λ x h n. let a : v.clock ≤ clock = suits.above in let b : x.stamp.clock < v.clock = h n in omega arith) kept.clock_of_others)
        (each_new (λ t. (t.member ≡ v.number → ⊥) → t.clock < clock) (λ t h. h) (λ n. suits.above_message));
    clock_of_latest = clock_of_latest;
    clock_in_range = suits.in_range;
    acknowledged = each_received (λ x. (x.stamp.member ≡ v.number → ⊥) → has_later sent x.stamp ≡ true)
        (Each-weaker (λ (x : Submission). (x.stamp.member ≡ v.number → ⊥) → has_later v.sent x.stamp ≡ true) (λ x. (x.stamp.member ≡ v.number → ⊥) → has_later sent x.stamp ≡ true) (known v)
        (λ x h n. subst (λ ms. has_later ms x.stamp ≡ true) (sym suits.goes_on) (later-append v.sent suits.more x.stamp (h n))) kept.acknowledged)
        (Each-weaker (λ (x : Submission). has_later sent x.stamp ≡ true) (λ x. (x.stamp.member ≡ v.number → ⊥) → has_later sent x.stamp ≡ true) xs (λ x h n. h) suits.acknowledged);
  }
    where
      clock_of_latest : (j : ℕ) → IsNumber v.group j → IsClockAbove (get_or latest (j - 1) none) clock
      clock_of_latest j number =
          decide (IsClockAbove (get_or latest (j - 1) none) clock) j k
          (λ e. subst (λ o. IsClockAbove o clock) (sym (ap (λ i. get_or latest (i - 1) none) e ∙ now_latest)) suits.above_message)
          (λ d. subst (λ o. IsClockAbove o clock) (sym (still_latest j number d)) (clock_weaker (latest_of v j) v.clock clock suits.above (kept.clock_of_latest j number)))

  -- the clock that the message leaves
  abbrev moved : ℕ
  moved = max v.clock s.clock + 1

  abbrev ack : Message
  ack = Ack (stamp (moved + 1) v.number)

  suits_acknowledged : moved + 1 ≤ last_clock → length v.sent < v.group.sent_limit → Suits (moved + 1) (v.sent ++ ack ∷ [])
  suits_acknowledged range room = record {
    lawful = sent_lawfully v ack refl refl refl (omega arith) range room (subst (λ l. (c : ℕ) → CountsFrom 0 (filter (is_by c) l)) (sym same) kept.lawful.serials) kept;
    commands = same;
    clock_of_sent = Each-append (λ z. (stamp_of z).clock ≤ moved + 1) v.sent (ack ∷ []) (Each-weaker (λ z. (stamp_of z).clock ≤ v.clock) (λ z. (stamp_of z).clock ≤ moved + 1) v.sent (λ z h. omega arith) kept.clock_of_sent) (omega arith, tt);
    above = omega arith;
    above_message = omega arith;
    in_range = range;
    more = ack ∷ [];
    goes_on = refl;
    acknowledged = Each-weaker (λ (x : Submission). x.stamp.clock < moved + 1) (λ x. has_later (v.sent ++ ack ∷ []) x.stamp ≡ true) xs
        (λ x h. list_any-append (λ z. is_before x.stamp (stamp_of z)) v.sent (ack ∷ []) ∙ or_right _ _ (or_left _ _ (true_before x.stamp (stamp_of ack) (earlier x.stamp (stamp_of ack) h)))) (each_new (λ t. t.clock < moved + 1) (λ t h. h) (omega arith));
  }
    where
      same : submissions (v.sent ++ ack ∷ []) ≡ submissions v.sent
      same = submissions-append v.sent (ack ∷ []) ∙ append-nil (submissions v.sent)

  suits_silent : moved ≤ last_clock → Each (λ (x : Submission). has_later v.sent x.stamp ≡ true) xs → Suits moved v.sent
  suits_silent range answered = record {
    lawful = kept.lawful;
    commands = refl;
    clock_of_sent = Each-weaker (λ z. (stamp_of z).clock ≤ v.clock) (λ z. (stamp_of z).clock ≤ moved) v.sent (λ z h. omega arith) kept.clock_of_sent;
    above = omega arith;
    above_message = omega arith;
    in_range = range;
    more = [];
    goes_on = sym (append-nil v.sent);
    acknowledged = answered;
  }

  -- the rule of acknowledgements: what is not acknowledged has nothing that lacks a message with a greater stamp
  rule_is_enough : must_acknowledge (node_of v) m ≡ false → Each (λ (x : Submission). has_later v.sent x.stamp ≡ true) xs
  rule_is_enough e = go xs e (beside_message m)
    where
      sent_after : (b : Bool) → not b ≡ false → b ≡ true
      sent_after true e = refl
      sent_after false e = absurd (true≢false e)

      go : (zs : List Submission) → (list_any (λ (x : Submission). true) zs && not (has_later v.sent s)) ≡ false → Each (λ (x : Submission). IsBeside s x.stamp) zs → Each (λ (x : Submission). has_later v.sent x.stamp ≡ true) zs
      go [] e a = tt
      go (z ∷ zs) e a = Each-weaker (λ (x : Submission). IsBeside s x.stamp) (λ x. has_later v.sent x.stamp ≡ true) (z ∷ zs) (λ x b. later_beside v.number s x.stamp v.sent b (λ h. next.other (sym next.sender ∙ h)) kept.lawful.own (sent_after (has_later v.sent s) e)) a

  -- the refusal, the clock and the sent list, as the rule decides
  abbrev clock_by : Bool → ℕ
  clock_by b = cond b (moved + 1) moved

  abbrev refused_by : Bool → Option Refusal
  refused_by b = cond (nat_lt last_clock (clock_by b)) (Some ClockFull) (cond (b && is_sent_full v.group (node_of v)) (Some SentFull) None)

  pub keeps_received : room_refusal v.group (node_of v) m ≡ None → IsMember (received v k m)
  keeps_received free = go (must_acknowledge (node_of v) m) refl free
    where
      free_clock : (n : ℕ) (a : Bool) (o : Option Refusal) → nat_lt last_clock n ≡ a → cond a (Some ClockFull) o ≡ None → (n ≤ last_clock) × (o ≡ None)
      free_clock n true o e f = let no : ⊥ = cc in absurd no
      free_clock n false o e f = (grind (arith, nat_tests), f)

      free_sent : (a : Bool) → nat_le v.group.sent_limit (length v.sent) ≡ a → cond {A = Option Refusal} a (Some SentFull) None ≡ None → length v.sent < v.group.sent_limit
      free_sent true e f = let no : ⊥ = cc in absurd no
      free_sent false e f = grind (arith, nat_tests)

      go : (b : Bool) → must_acknowledge (node_of v) m ≡ b → refused_by b ≡ None → IsMember (taken_with (clock_by b) (v.sent ++ acks (cond b (Some (stamp (clock_by b) v.number)) None)))
      go true e f = let a = free_clock (moved + 1) (nat_lt last_clock (moved + 1)) _ refl f in keeps_taken (moved + 1) (v.sent ++ ack ∷ []) (suits_acknowledged a.0 (free_sent (nat_le v.group.sent_limit (length v.sent)) refl a.1))
      go false e f =
          let a = free_clock moved (nat_lt last_clock moved) _ refl f in
          subst (λ ms. IsMember (taken_with moved ms)) (sym (append-nil v.sent)) (keeps_taken moved v.sent (suits_silent a.0 (rule_is_enough e)))
