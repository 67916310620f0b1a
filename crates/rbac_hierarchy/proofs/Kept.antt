-- What a test keeps of a list, and of a list in order.
use Rattle.std.proofs.Common.{ℕ, zero, suc, ◌≡◌, ◌+◌, ◌<◌, ◌≤◌, Bool, true, false, not, ◌==◌, ◌||◌, cond, List, [], ◌∷◌, ◌++◌, length, get_or, take, drop, map, refl, sym, ap, ◌∙◌, arith}
use Rattle.std.specs.declared.cmp.Ordering.{Ordering}
use Rattle.std.specs.List.{AllWithin, filter, list_any}
use Rattle.std.specs.List.Sorted.{IsStrictlySortedBy}
use Rattle.std.specs.Cmp.{IsTotalOrder}
use Rattle.std.proofs.lemmas.Bool.{false≢true}
use Rattle.std.proofs.lemmas.Bool.Decides.{nat_tests}
use Rattle.std.proofs.lemmas.List.{take_more}
use Rattle.std.proofs.lemmas.Map.Keys.{Less-from_sorted}
use Rattle.sorted_keys.specs.Keys.{with_key, by_key}
use Rattle.sorted_keys.proofs.Order.{greater}

pub any-append : {X : Type 0} (p : X → Bool) (xs ys : List X) → list_any p (xs ++ ys) ≡ (list_any p xs || list_any p ys)
any-append p [] ys = refl
any-append p (x ∷ xs) ys = elim (p x) as (λ b. (b || list_any p (xs ++ ys)) ≡ ((b || list_any p xs) || list_any p ys)) [
  | true ↦ refl
  | false ↦ any-append p xs ys
]

never_none : (n : ℕ) → (suc n == 0) ≡ false
never_none n = grind (arith, nat_tests)

module _ {X : Type 0} (p : X → Bool) where
  -- some element passes where something is kept
  pub some_kept : (xs : List X) → not (length (filter p xs) == 0) ≡ list_any p xs
  some_kept [] = refl
  some_kept (x ∷ xs) = elim (p x) as (λ b. not (length (cond b (x ∷ filter p xs) (filter p xs)) == 0) ≡ (b || list_any p xs)) [
    | true ↦ ap not (never_none (length (filter p xs)))
    | false ↦ some_kept xs
  ]

  pub keeps_none : (xs : List X) → ((x : X) → p x ≡ false) → filter p xs ≡ []
  keeps_none [] h = refl
  keeps_none (x ∷ xs) h = rw (h x) (keeps_none xs h)

  -- where none before a place passes, what is kept stands from there on
  pub keeps_past : (xs : List X) (i : ℕ) → AllWithin (λ y. p y ≡ false) xs 0 i → filter p xs ≡ filter p (drop i xs)
  keeps_past [] zero h = refl
  keeps_past [] (suc i) h = refl
  keeps_past (x ∷ xs) zero h = refl
  keeps_past (x ∷ xs) (suc i) h = rw (h 0 x (omega arith) (omega arith)) (keeps_past xs i (λ k d low high. h (suc k) d (omega arith) (omega arith)))

  -- where those before a place pass, and none after it, these are kept
  pub keeps_front : (xs : List X) (i : ℕ) → AllWithin (λ y. p y ≡ true) xs 0 i → AllWithin (λ y. p y ≡ false) xs i (length xs) → filter p xs ≡ take i xs
  keeps_front [] zero passes fails = refl
  keeps_front [] (suc i) passes fails = refl
  keeps_front (x ∷ xs) zero passes fails = rw (fails 0 x (omega arith) (omega arith)) (keeps_front xs zero (λ k d low high. absurd (omega arith)) (λ k d low high. fails (suc k) d (omega arith) (omega arith)))
  keeps_front (x ∷ xs) (suc i) passes fails = rw (passes 0 x (omega arith) (omega arith)) (ap (λ t. x ∷ t) (keeps_front xs i (λ k d low high. passes (suc k) d (omega arith) (omega arith)) (λ k d low high. fails (suc k) d (omega arith) (omega arith))))

pub keeps_all : {X : Type 0} (xs : List X) → filter (λ _. true) xs ≡ xs
keeps_all [] = refl
keeps_all (x ∷ xs) = ap (λ t. x ∷ t) (keeps_all xs)

-- a test that passes less keeps no more, and less where it fails what the other passes
pub keeps_fewer : {X : Type 0} (p q : X → Bool) (xs : List X) → ((x : X) → p x ≡ true → q x ≡ true) → length (filter p xs) ≤ length (filter q xs)
keeps_fewer p q [] weaker = omega arith
keeps_fewer p q (x ∷ xs) weaker =
    let rest = keeps_fewer p q xs weaker in
    elim (p x) as (λ b. p x ≡ b → length (cond b (x ∷ filter p xs) (filter p xs)) ≤ length (cond (q x) (x ∷ filter q xs) (filter q xs))) [
      | true ↦ λ e. rw (weaker x e) (omega arith)
      | false ↦ λ e. elim (q x) as (λ c. length (filter p xs) ≤ length (cond c (x ∷ filter q xs) (filter q xs))) [
        | true ↦ omega arith
        | false ↦ rest
      ]
    ] refl

pub keeps_less : {X : Type 0} (p q t : X → Bool) (xs : List X) → ((x : X) → p x ≡ true → q x ≡ true) → ((x : X) → t x ≡ true → (p x ≡ false) × (q x ≡ true)) → list_any t xs ≡ true → length (filter p xs) + 1 ≤ length (filter q xs)
keeps_less p q t [] weaker apart some = absurd (false≢true some)
keeps_less p q t (x ∷ xs) weaker apart some = elim (t x) as (λ b. t x ≡ b → (b || list_any t xs) ≡ true → length (filter p (x ∷ xs)) + 1 ≤ length (filter q (x ∷ xs))) [
  | true ↦ λ e _. let at = apart x e in let rest = keeps_fewer p q xs weaker in rw (at.0, at.1) (omega arith)
  | false ↦ λ e later.
      let rest = keeps_less p q t xs weaker apart later in
      elim (p x) as (λ b. p x ≡ b → length (cond b (x ∷ filter p xs) (filter p xs)) + 1 ≤ length (cond (q x) (x ∷ filter q xs) (filter q xs))) [
        | true ↦ λ e. rw (weaker x e) (omega arith)
        | false ↦ λ e. elim (q x) as (λ c. length (filter p xs) + 1 ≤ length (cond c (x ∷ filter q xs) (filter q xs))) [
          | true ↦ omega arith
          | false ↦ rest
        ]
      ] refl
] refl some

-- the keys of the entries that pass, one entry on
module _ {K X : Type 0} {R : K → K → Ordering} (o : IsTotalOrder R) (p : K × X → Bool) where
  abbrev keys : List (K × X) → List K
  keys es = map (λ e. e.0) (filter p es)

  pub key_kept : (es : List (K × X)) (i : ℕ) (d : K × X) → IsStrictlySortedBy (by_key R) es → i < length es → p (get_or es i d) ≡ true → with_key R (get_or es i d).0 (keys (take i es)) ≡ keys (take (suc i) es)
  unfolding IsStrictlySortedBy
  key_kept [] i d sorted lt passes = absurd (omega arith)
  key_kept (e ∷ es) zero d sorted lt passes = rw passes refl
  key_kept (e ∷ es) (suc i) d sorted lt passes =
      let later = key_kept es i d sorted.1 (omega arith) passes in
      let above = greater o e.0 (get_or es i d).0 (Less-from_sorted (by_key R) (e ∷ es) 0 (suc i) d sorted (omega arith) lt) in
      elim (p e) as (λ b. with_key R (get_or es i d).0 (map (λ e. e.0) (cond b (e ∷ filter p (take i es)) (filter p (take i es)))) ≡ map (λ e. e.0) (cond b (e ∷ filter p (take (suc i) es)) (filter p (take (suc i) es)))) [
        | true ↦ rw above (ap (λ t. e.0 ∷ t) later)
        | false ↦ later
      ]

  pub key_passed : (es : List (K × X)) (i : ℕ) (d : K × X) → i < length es → p (get_or es i d) ≡ false → keys (take i es) ≡ keys (take (suc i) es)
  key_passed [] i d lt fails = absurd (omega arith)
  key_passed (e ∷ es) zero d lt fails = rw fails refl
  key_passed (e ∷ es) (suc i) d lt fails =
      let later = key_passed es i d (omega arith) fails in
      elim (p e) as (λ b. map (λ e. e.0) (cond b (e ∷ filter p (take i es)) (filter p (take i es))) ≡ map (λ e. e.0) (cond b (e ∷ filter p (take (suc i) es)) (filter p (take (suc i) es)))) [
        | true ↦ ap (λ t. e.0 ∷ t) later
        | false ↦ later
      ]

-- a list up to one more item
pub one_more : {X : Type 0} (xs : List X) (i : ℕ) (x : X) → i < length xs → x ≡ get_or xs i x → take (i + 1) xs ≡ take i xs ++ x ∷ []
one_more xs i x lt is = take_more xs i x lt ∙ ap (λ y. take i xs ++ y ∷ []) (sym is)
