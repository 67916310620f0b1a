-- Commands in messages, and serials that count up.
use Rattle.std.proofs.Common.{ℕ, suc, Bool, true, false, cond, ◌≡◌, ◌+◌, ◌==◌, List, [], ◌∷◌, ◌++◌, length, length-append, ◌≤◌, refl, sym, ap, subst, ◌∙◌, arith, append-nil, append_assoc, ◌<◌}
use Rattle.std.specs.List.{AllByRecursion as Each, filter}
use Rattle.std.proofs.lemmas.Bool.Decides.{nat_tests}
use Rattle.std.proofs.lemmas.Grind.{flat_map-append}
use Rattle.std.proofs.lemmas.List.Elements.{filter-append}
use Rattle.rbac_words.specs.declared.message.Message.{Message}
use Rattle.rbac_words.specs.declared.message.Message.TheVariants.{Batch, Ack}
use Rattle.rbac_terms.specs.declared.command.Command.{Command}
use Rattle.rbac_words.specs.declared.stamp.Stamp.{Stamp}
use Rattle.rbac_words.specs.Limits.{last_clock}
use Rattle.rbac_words.specs.Group.{Group}
use Rattle.rbac_words.specs.Stamp.{IsBefore, IsRising}
use Rattle.rbac_words.specs.declared.message.Submission.{Submission}
use Rattle.rbac_words.specs.Message.{stamp_of, submitted_at, next_place, in_turn, submissions_of, has_bad_batch, submissions, is_by, next_serial, CountsFrom, AreSerialsInOrder, IsLawful}
use Rattle.sorted_keys.proofs.Lists.{Each-append, Each-left, Each-weaker, Each-both}
use Rattle.rbac_order.proofs.StampLemmas.{earlier, IsBeside, before_next, next_above, message_later, Rising-append, Rising-left}

pub submissions-append : (ms ns : List Message) → submissions (ms ++ ns) ≡ submissions ms ++ submissions ns
submissions-append ms ns = flat_map-append submissions_of ms ns

pub CountsFrom-left : (n : ℕ) (xs ys : List Submission) → CountsFrom n (xs ++ ys) → CountsFrom n xs
CountsFrom-left n [] ys c = tt
CountsFrom-left n (x ∷ xs) ys c = (c.0, CountsFrom-left (suc n) xs ys c.1)

pub CountsFrom-push : (n : ℕ) (xs : List Submission) (y : Submission) → CountsFrom n xs → y.serial ≡ n + length xs → CountsFrom n (xs ++ y ∷ [])
CountsFrom-push n [] y c e = (let f : y.serial ≡ n = omega arith in f, tt)
CountsFrom-push n (x ∷ xs) y c e = (c.0, CountsFrom-push (suc n) xs y c.1 (let f : y.serial ≡ suc n + length xs = omega arith in f))

-- a caller's next command goes on in order
pub serial_goes_on : (xs : List Submission) (x : Submission) → AreSerialsInOrder xs → x.serial ≡ next_serial x.caller xs → AreSerialsInOrder (xs ++ x ∷ [])
serial_goes_on xs x o e caller =
    subst (CountsFrom 0) (sym (filter-append (is_by caller) xs (x ∷ []))) (go (x.caller == caller) refl)
  where
    same : (b : Bool) → (x.caller == caller) ≡ b → b ≡ true → x.caller ≡ caller
    same b f t = grind (arith, nat_tests)

    go : (b : Bool) → (x.caller == caller) ≡ b → CountsFrom 0 (filter (is_by caller) xs ++ cond b (x ∷ []) [])
    go true f = CountsFrom-push 0 (filter (is_by caller) xs) x (o caller) (let g : x.serial ≡ length (filter (is_by caller) xs) = e ∙ ap (λ k. next_serial k xs) (same true f refl) in omega arith)
    go false f = subst (CountsFrom 0) (sym (append-nil (filter (is_by caller) xs))) (o caller)

-- and so do its next commands
pub serials_go_on : (xs : List Submission) (s : Stamp) (caller serial : ℕ) (cs : List Command) → AreSerialsInOrder xs → serial ≡ next_serial caller xs → AreSerialsInOrder (xs ++ in_turn s caller serial cs)
serials_go_on xs s caller serial [] o e = subst AreSerialsInOrder (sym (append-nil xs)) o
serials_go_on xs s caller serial (c ∷ cs) o e =
    subst AreSerialsInOrder (append_assoc xs (x ∷ []) (in_turn (next_place s) caller (suc serial) cs))
    (serials_go_on (xs ++ x ∷ []) (next_place s) caller (suc serial) cs (serial_goes_on xs x o e) next)
  where
    x : Submission
    x = record { stamp = s; caller = caller; serial = serial; command = c }

    own : (caller == caller) ≡ true
    own = grind (arith, nat_tests)

    next : suc serial ≡ next_serial caller (xs ++ x ∷ [])
    next =
        let a : next_serial caller (xs ++ x ∷ []) ≡ length (filter (is_by caller) xs ++ x ∷ []) = ap length (filter-append (is_by caller) xs (x ∷ []) ∙ ap (λ b. filter (is_by caller) xs ++ cond b (x ∷ []) []) own) in
        let b : length (filter (is_by caller) xs ++ x ∷ []) ≡ length (filter (is_by caller) xs) + 1 = length-append (filter (is_by caller) xs) (x ∷ []) in omega arith

-- the first that comes after counted ones has the next number
pub CountsFrom-next : (n : ℕ) (xs : List Submission) (y : Submission) (ys : List Submission) → CountsFrom n (xs ++ y ∷ ys) → y.serial ≡ n + length xs
CountsFrom-next n [] y ys c = let e : y.serial ≡ n = c.0 in omega arith
CountsFrom-next n (x ∷ xs) y ys c = let e : y.serial ≡ suc n + length xs = CountsFrom-next (suc n) xs y ys c.1 in omega arith

-- what holds of a stamp and stays so at later places
abbrev pub StaysByPlace : (Stamp → Type 0) → Type 0
StaysByPlace P = (s : Stamp) → P s → P (next_place s)

Each-in_turn : (P : Stamp → Type 0) → StaysByPlace P → (s : Stamp) (caller serial : ℕ) (cs : List Command) → P s → Each (λ x. P (submitted_at x)) (in_turn s caller serial cs)
Each-in_turn P stays s caller serial [] p = tt
Each-in_turn P stays s caller serial (c ∷ cs) p = (p, Each-in_turn P stays (next_place s) caller (suc serial) cs (stays s p))

Rising-in_turn : (s : Stamp) (caller serial : ℕ) (cs : List Command) → IsRising submitted_at (in_turn s caller serial cs)
Rising-in_turn s caller serial [] = tt
Rising-in_turn s caller serial (c ∷ cs) = (Each-in_turn (IsBefore s) (before_next s) (next_place s) caller (suc serial) cs (next_above s), Rising-in_turn (next_place s) caller (suc serial) cs)

-- what holds of a message's stamp, and stays so at later places, holds of its commands' stamps
pub Each-commands : (P : Stamp → Type 0) → StaysByPlace P → (m : Message) → P (stamp_of m) → Each (λ x. P (submitted_at x)) (submissions_of m)
Each-commands P stays (Batch stamp caller serial commands) p = Each-in_turn P stays stamp caller serial commands p
Each-commands P stays (Ack stamp) p = tt

-- a message's commands have its clock and its member
pub beside_message : (m : Message) → Each (λ x. IsBeside (stamp_of m) (submitted_at x)) (submissions_of m)
beside_message m = Each-commands (IsBeside (stamp_of m)) (λ s b. record { clock = b.clock; member = b.member }) m (record { clock = refl; member = refl })

pub own_rising : (m : Message) → IsRising submitted_at (submissions_of m)
own_rising (Batch stamp caller serial commands) = Rising-in_turn stamp caller serial commands
own_rising (Ack stamp) = tt

-- the same of a list of messages
pub Each-submissions : (P : Stamp → Type 0) → StaysByPlace P → (ms : List Message) → Each (λ m. P (stamp_of m)) ms → Each (λ x. P (submitted_at x)) (submissions ms)
Each-submissions P stays [] a = tt
Each-submissions P stays (m ∷ ms) a = Each-append (λ x. P (submitted_at x)) (submissions_of m) (submissions ms) (Each-commands P stays m a.0) (Each-submissions P stays ms a.1)

-- the commands of one member's rising messages rise
pub Rising-submissions : (k : ℕ) (ms : List Message) → Each (λ m. (stamp_of m).member ≡ k) ms → Each (λ m. (stamp_of m).place ≡ 0) ms → IsRising stamp_of ms → IsRising submitted_at (submissions ms)
Rising-submissions k [] own first r = tt
Rising-submissions k (m ∷ ms) own first r =
    Rising-append submitted_at (submissions_of m) (submissions ms) (own_rising m) (Rising-submissions k ms own.1 first.1 r.1)
    (Each-weaker (λ x. IsBeside (stamp_of m) (submitted_at x)) (λ x. Each (λ y. IsBefore (submitted_at x) (submitted_at y)) (submissions ms)) (submissions_of m)
    (λ x b. Each-weaker (λ y. (stamp_of m).clock < (submitted_at y).clock) (λ y. IsBefore (submitted_at x) (submitted_at y)) (submissions ms)
    (λ y h. let c : (submitted_at x).clock ≡ (stamp_of m).clock = b.clock in earlier (submitted_at x) (submitted_at y) (omega arith)) later)
    (beside_message m))
  where
    later : Each (λ y. (stamp_of m).clock < (submitted_at y).clock) (submissions ms)
    later =
        Each-submissions (λ t. (stamp_of m).clock < t.clock) (λ s h. h) ms
        (Each-weaker (λ n. (IsBefore (stamp_of m) (stamp_of n) × ((stamp_of n).place ≡ 0)) × ((stamp_of n).member ≡ k)) (λ n. (stamp_of m).clock < (stamp_of n).clock) ms
        (λ n h. message_later (stamp_of m) (stamp_of n) (h.1 ∙ sym own.0) h.0.1 h.0.0)
        (Each-both (λ n. IsBefore (stamp_of m) (stamp_of n) × ((stamp_of n).place ≡ 0)) (λ n. (stamp_of n).member ≡ k) ms
        (Each-both (λ n. IsBefore (stamp_of m) (stamp_of n)) (λ n. (stamp_of n).place ≡ 0) ms r.0 first.1) own.1))

-- a first part of a lawful sent list
pub Lawful-left : (member : ℕ) (group : Group) (ms ns : List Message) → IsLawful member group (ms ++ ns) → IsLawful member group ms
Lawful-left member group ms ns l = record {
  own = Each-left (λ m. (stamp_of m).member ≡ member) ms ns l.own;
  first = Each-left (λ m. (stamp_of m).place ≡ 0) ms ns l.first;
  rising = Rising-left stamp_of ms ns l.rising;
  clocks_in_range = Each-left (λ m. (stamp_of m).clock ≤ last_clock) ms ns l.clocks_in_range;
  within_limit = let a : length (ms ++ ns) ≤ group.sent_limit = l.within_limit in omega (arith, length-append ms ns);
  batches = Each-left (λ m. has_bad_batch m ≡ false) ms ns l.batches;
  serials = λ caller. CountsFrom-left 0 (filter (is_by caller) (submissions ms)) (filter (is_by caller) (submissions ns))
      (subst (CountsFrom 0) (ap (filter (is_by caller)) (submissions-append ms ns) ∙ filter-append (is_by caller) (submissions ms) (submissions ns)) (l.serials caller));
}
