-- What a member has heard: its last stamp and its order, and what of it is held.
use Rattle.std.proofs.Common.{ℕ, suc, ◌≡◌, ◌+◌, ◌-◌, ◌<◌, ◌≤◌, ⊎_elim, true, false, cond, ◌==◌, List, [], ◌∷◌, ◌++◌, length, take, drop, get_or, Option, Some, None, drop-cons, add-one, append_assoc, refl, sym, ap, ◌∙◌, subst, arith, true≢false}
use Rattle.std.proofs.lemmas.Bool.Decides.{nat_tests}
use Rattle.std.proofs.lemmas.List.{take-append-drop}
use Rattle.std.proofs.lemmas.List.Sums.{sum_by-cons}
use Rattle.std.proofs.lemmas.List.Sorted.{IsPermutation-sym, IsPermutation-trans, sum_by-IsPermutation}
use Rattle.std.specs.List.{slice_get, slice_index_or, sum_by, filter, AllByRecursion as Each}
use Rattle.std.specs.List.Sorted.{IsSorted, IsPermutation}
use Rattle.std.specs.Ordering.{is_lt}
use Rattle.sorted_keys.proofs.Lists.{Each-left, Each-weaker}
use Rattle.rbac_terms.specs.declared.command.Command.{Command}
use Rattle.rbac_words.specs.declared.stamp.Stamp.{Stamp}
use Rattle.rbac_words.specs.declared.record.Record.{Record}
use Rattle.rbac_words.specs.declared.message.Message.{Message}
use Rattle.rbac_words.specs.Stamp.{stamp_cmp, IsBefore, is_same_stamp, is_after, IsRising, IsInStampOrder, sort_by_stamp, last_stamp}
use Rattle.rbac_words.specs.Message.{stamp_of, submitted_at, next_place, commands_of, is_bad_batch}
use Rattle.rbac_words.specs.World.{Node, heard_of, read_of}
use Rattle.rbac_order.proofs.StampLemmas.{true_before, before_trans, before_total, same_stamp_itself, same_stamp_below, Rising-left, sort-moves, sort-in_order}
use Rattle.rbac_pages.specs.TraceText.{stamps_from}

-- ---- The last one

module _ {X : Type 0} (at : X → Stamp) where
  one_less : (n : ℕ) → suc (suc n) - 1 ≡ suc (suc n - 1)
  one_less n = omega arith

  pub last_is : (xs : List X) (x : X) → slice_get xs (length xs - 1) ≡ Some x → last_stamp at xs ≡ Some (at x)
  last_is [] x e = absurd (let f : ⊥ = cc in f)
  last_is (y ∷ []) x e = ap (λ z. Some (at z)) (let f : y ≡ x = cc in f)
  last_is (y ∷ z ∷ zs) x e = last_is (z ∷ zs) x (subst (λ n. slice_get (y ∷ z ∷ zs) n ≡ Some x) (one_less (length zs)) e)

  pub none_last : (xs : List X) → slice_get xs (length xs - 1) ≡ None → last_stamp at xs ≡ None
  none_last [] e = refl
  none_last (y ∷ []) e = absurd (let f : ⊥ = cc in f)
  none_last (y ∷ z ∷ zs) e = none_last (z ∷ zs) (subst (λ n. slice_get (y ∷ z ∷ zs) n ≡ None) (one_less (length zs)) e)

pub last_recorded : (history : List Record) → last_stamp submitted_at (commands_of history) ≡ last_stamp (λ (r : Record). r.stamp) history
last_recorded [] = refl
last_recorded (r ∷ []) = refl
last_recorded (r ∷ s ∷ history) = last_recorded (s ∷ history)

-- ---- What was heard

module _ (v other : Node) where
  pub heard_rising : IsRising stamp_of other.sent → IsRising stamp_of (heard_of v other)
  heard_rising rising = elim (other.number == v.number) as (λ b. IsRising stamp_of (cond b other.sent (take (read_of v other.number) other.sent))) [
    | true ↦ rising
    | false ↦ Rising-left stamp_of (take (read_of v other.number) other.sent) (drop (read_of v other.number) other.sent) (subst (IsRising stamp_of) (sym (take-append-drop (read_of v other.number) other.sent)) rising)
  ]

  pub heard_each : (P : Message → Type 0) → Each P other.sent → Each P (heard_of v other)
  heard_each P each = elim (other.number == v.number) as (λ b. Each P (cond b other.sent (take (read_of v other.number) other.sent))) [
    | true ↦ each
    | false ↦ Each-left P (take (read_of v other.number) other.sent) (drop (read_of v other.number) other.sent) (subst (Each P) (sym (take-append-drop (read_of v other.number) other.sent)) each)
  ]

-- ---- Places

pub few : (serial count : ℕ) → is_bad_batch serial count ≡ false → count ≤ 64
few serial count h = grind (arith, nat_tests)

-- one command more
pub places_more : (last : Option Stamp) (own : Stamp) (c : Command) (cs : List Command) → filter (is_after last) (stamps_from own (c ∷ cs)) ≡ filter (is_after last) (own ∷ []) ++ filter (is_after last) (stamps_from (next_place own) cs)
places_more last own c cs = elim (is_after last own) as (λ b. cond b (own ∷ filter (is_after last) (stamps_from (next_place own) cs)) (filter (is_after last) (stamps_from (next_place own) cs)) ≡ cond b (own ∷ []) [] ++ filter (is_after last) (stamps_from (next_place own) cs)) [
  | true ↦ refl
  | false ↦ refl
]

pub step_places : (last : Option Stamp) (own : Stamp) (commands : List Command) (i : ℕ) (c : Command) (before now told : List Stamp) → i < length commands → c ≡ get_or commands i c
    → now ≡ before ++ filter (is_after last) (own ∷ []) → before ++ filter (is_after last) (stamps_from own (drop i commands)) ≡ told
    → now ++ filter (is_after last) (stamps_from (record { clock = own.clock; member = own.member; place = own.place + 1 }) (drop (i + 1) commands)) ≡ told
step_places last own commands i c before now told within is made h =
    let next : Stamp = record { clock = own.clock; member = own.member; place = own.place + 1 } in
    let same : next ≡ next_place own = λ j. record { clock = own.clock; member = own.member; place = add-one own.place j } in
    let split : drop i commands ≡ c ∷ drop (i + 1) commands = drop-cons commands i c within ∙ ap (λ x. x ∷ drop (suc i) commands) (sym is) ∙ ap (λ n. c ∷ drop n commands) (sym (add-one i)) in
    ap (λ l. l ++ filter (is_after last) (stamps_from next (drop (i + 1) commands))) made
    ∙ append_assoc before (filter (is_after last) (own ∷ [])) (filter (is_after last) (stamps_from next (drop (i + 1) commands)))
    ∙ ap (λ s. before ++ (filter (is_after last) (own ∷ []) ++ filter (is_after last) (stamps_from s (drop (i + 1) commands)))) same
    ∙ ap (λ l. before ++ l) (sym (places_more last own c (drop (i + 1) commands)))
    ∙ ap (λ cs. before ++ filter (is_after last) (stamps_from own cs)) (sym split)
    ∙ h

-- ---- The order

abbrev one_if : Stamp → Stamp → ℕ
one_if s y = cond (is_same_stamp s y) 1 0

abbrev count : Stamp → List Stamp → ℕ
count s = sum_by (one_if s)

none_below : (s : Stamp) (ys : List Stamp) → Each (IsBefore s) ys → count s ys ≡ 0
none_below s [] b = refl
none_below s (y ∷ ys) b = sum_by-cons (one_if s) y ys ∙ rw (same_stamp_below s y b.0) (let rest = none_below s ys b.1 in omega arith)

one_more_of : (s : Stamp) (ys : List Stamp) → count s (s ∷ ys) ≡ 1 + count s ys
one_more_of s ys = sum_by-cons (one_if s) s ys ∙ rw (same_stamp_itself s) refl

all_above : (s z : Stamp) (zs : List Stamp) → IsBefore s z → Each (λ x. ¬ (IsBefore x z)) zs → Each (IsBefore s) (z ∷ zs)
all_above s z zs below above = (below, Each-weaker (λ x. ¬ (IsBefore x z)) (IsBefore s) zs (λ x h. ⊎_elim (λ e. subst (IsBefore s) (sym e) below) (λ k. ⊎_elim (λ b. absurd (h b)) (λ b. before_trans s z x below b) k) (before_total x z)) above)

first_missing : (s : Stamp) (rest others : List Stamp) → Each (IsBefore s) others → count s (s ∷ rest) ≡ count s others → ⊥
first_missing s rest others above e = let a = none_below s others above in let b = one_more_of s rest in omega arith

equal_rests : (y z : Stamp) (ys zs : List Stamp) → y ≡ z → ((s : Stamp) → count s (y ∷ ys) ≡ count s (z ∷ zs)) → (s : Stamp) → count s ys ≡ count s zs
equal_rests y z ys zs e h s =
    let a = sum_by-cons (one_if s) y ys in
    let b = sum_by-cons (one_if s) z zs in
    let c = h s in
    let d : one_if s y ≡ one_if s z = ap (one_if s) e in
    omega arith

same_order : (ys zs : List Stamp) → IsInStampOrder (λ s. s) ys → IsInStampOrder (λ s. s) zs → ((s : Stamp) → count s ys ≡ count s zs) → ys ≡ zs
same_order [] [] o p h = refl
same_order [] (z ∷ zs) o p h = absurd (let a : 0 ≡ count z (z ∷ zs) = h z in let b = one_more_of z zs in omega arith)
same_order (y ∷ ys) [] o p h = absurd (let a : count y (y ∷ ys) ≡ 0 = h y in let b = one_more_of y ys in omega arith)
same_order (y ∷ ys) (z ∷ zs) o p h = ⊎_elim
    (λ e. let rest = same_order ys zs o.1 p.1 (equal_rests y z ys zs e h) in λ i. e i ∷ rest i)
    (λ k. ⊎_elim (λ b. absurd (first_missing y ys (z ∷ zs) (all_above y z zs b p.0) (h y))) (λ b. absurd (first_missing z zs (y ∷ ys) (all_above z y ys b o.0) (sym (h z)))) k)
    (before_total y z)

in_order : (xs : List Stamp) → IsSorted stamp_cmp xs → IsInStampOrder (λ s. s) xs
in_order [] up = tt
in_order (x ∷ []) up = (tt, tt)
in_order (x ∷ y ∷ ys) up =
    let rest = in_order (y ∷ ys) tail in
    let first : ¬ (IsBefore y x) = λ b. true≢false (sym (true_before y x b) ∙ up 0 x (omega arith) (omega arith)) in
    ((first, Each-weaker (λ z. ¬ (IsBefore z y)) (λ z. ¬ (IsBefore z x)) ys (λ z h b. h (⊎_elim (λ e. subst (IsBefore z) (sym e) b) (λ k. ⊎_elim (λ f. absurd (first f)) (λ f. before_trans z x y b f) k) (before_total y x))) rest.0), rest)
  where
    tail : IsSorted stamp_cmp (y ∷ ys)
    tail = λ k d low high. subst (λ n. is_lt (stamp_cmp (slice_index_or (x ∷ y ∷ ys) n d) (slice_index_or (y ∷ ys) k d)) ≡ false) (let e : suc k + 1 ≡ suc (k + 1) = omega arith in e) (up (suc k) d (omega arith) (omega arith))

-- what is sorted is what the book sorts
pub sorted_is : (xs ys : List Stamp) → IsPermutation xs ys → IsSorted stamp_cmp ys → ys ≡ sort_by_stamp (λ s. s) xs
sorted_is xs ys moved up =
    let both = IsPermutation-trans ys xs (sort_by_stamp (λ s. s) xs) (IsPermutation-sym xs ys moved) (sort-moves (λ s. s) xs) in
    same_order ys (sort_by_stamp (λ s. s) xs) (in_order ys up) (sort-in_order (λ s. s) xs) (λ s. sym (sum_by-IsPermutation (one_if s) ys (sort_by_stamp (λ s. s) xs) both))
