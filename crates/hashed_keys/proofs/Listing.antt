-- Values at places, listed in an order of the places: what a place more, one less, or another value makes of the list.
use Rattle.std.proofs.Common.{ℕ, zero, suc, ◌≡◌, ◌≢◌, ◌<◌, ◌≤◌, ◌+◌, ◌==◌, inl, inr, Bool, true, cond, List, [], ◌∷◌, ◌++◌, length, get_or, set, take, drop, Option, Some, None, is_some, filter_map, refl, sym, ap, ◌∙◌, arith, true≢false}
use Rattle.std.specs.List.{AllByRecursion, cons_option, insert, remove, slice_get}
use Rattle.std.specs.Option.{unwrap_or}
use Rattle.std.proofs.lemmas.Bool.{eq-eqb}
use Rattle.std.proofs.lemmas.Bool.Decides.{eqb_tells}
use Rattle.std.proofs.lemmas.List.Sums.{sum_by-cons, sum_by-insert, sum_by-remove}
use Rattle.std.proofs.lemmas.List.Elements.{filter_map-append}
use Rattle.hashed_keys.specs.Listed.{times}

-- one for what is so
abbrev pub one_if : Bool → ℕ
one_if b = cond b 1 0

pub times-cons : (place q : ℕ) (qs : List ℕ) → times place (q ∷ qs) ≡ cond (q == place) 1 0 + times place qs
times-cons place q qs = sum_by-cons (λ p. cond (p == place) 1 0) q qs

times-rest : (place q : ℕ) (qs : List ℕ) → times place qs ≤ times place (q ∷ qs)
times-rest place q qs = omega (arith, times-cons place q qs)

same_place : (p q : ℕ) → p ≡ q → one_if (p == q) ≡ 1
same_place p q same = ap one_if (eq-eqb p q same)

times-first : (q : ℕ) (qs : List ℕ) → times q (q ∷ qs) ≡ 1 + times q qs
times-first q qs = times-cons q q qs ∙ ap (λ n. n + times q qs) (same_place q q refl)

pub times-insert : (place q : ℕ) (order : List ℕ) (i : ℕ) → times q (insert order i place) ≡ times q order + cond (place == q) 1 0
times-insert place q order i = sum_by-insert (λ p. cond (p == q) 1 0) order i place

pub times-remove : (q : ℕ) (order : List ℕ) (i d : ℕ) → i < length order → times q (remove order i) + cond (get_or order i d == q) 1 0 ≡ times q order
times-remove q order i d lt = sum_by-remove (λ p. cond (p == q) 1 0) order i d lt

-- where a place stands that stands somewhere
pub place_in : (order : List ℕ) (p : ℕ) → 0 < times p order → (i : ℕ) × (slice_get order i ≡ Some p)
place_in [] p some = absurd (omega arith)
place_in (q ∷ qs) p some = elim (eqb_tells q p) [
  | inl same ↦ (0, ap Some same.1)
  | inr other ↦
      let rest = place_in qs p (omega (arith, times-cons p q qs, ap one_if other.0)) in
      (suc rest.0, rest.1)
]

pub Some-same : {X : Type 0} {x y : X} → Some x ≡ Some y → x ≡ y
Some-same {X} {x} {y} e = ap (λ o. unwrap_or o x) e

module _ {X : Type 0} where
  -- there is a value at each of these places
  abbrev pub AreKept : (ℕ → Option X) → List ℕ → Type 0
  AreKept f order = AllByRecursion (λ p. is_some (f p) ≡ true) order

  pub kept_from : (f : ℕ → Option X) (order : List ℕ) → ((p : ℕ) → 0 < times p order → is_some (f p) ≡ true) → AreKept f order
  kept_from f [] has = tt
  kept_from f (q ∷ qs) has = (has q (omega (arith, times-first q qs)), kept_from f qs (λ p more. has p (omega (arith, times-rest p q qs))))

  -- places at which the same stands
  pub listed-agree : (f g : ℕ → Option X) (order : List ℕ) → ((p : ℕ) → 0 < times p order → f p ≡ g p) → filter_map f order ≡ filter_map g order
  listed-agree f g [] agree = refl
  listed-agree f g (q ∷ qs) agree =
      let rest = listed-agree f g qs (λ p more. agree p (omega (arith, times-rest p q qs))) in
      rw (agree q (omega (arith, times-first q qs)), rest) refl

  pub listed-length : (f : ℕ → Option X) (order : List ℕ) → AreKept f order → length (filter_map f order) ≡ length order
  listed-length f [] kept = refl
  listed-length f (q ∷ qs) kept = elim (f q) as (λ o. is_some o ≡ true → length (cons_option o (filter_map f qs)) ≡ suc (length qs)) [
    | Some x ↦ λ _. ap suc (listed-length f qs kept.1)
    | None ↦ λ none. absurd (true≢false (sym none))
  ] kept.0

  pub listed-take : (f : ℕ → Option X) (order : List ℕ) (i : ℕ) → AreKept f order → filter_map f (take i order) ≡ take i (filter_map f order)
  listed-take f order zero kept = refl
  listed-take f [] (suc i) kept = refl
  listed-take f (q ∷ qs) (suc i) kept = elim (f q) as (λ o. is_some o ≡ true → cons_option o (filter_map f (take i qs)) ≡ take (suc i) (cons_option o (filter_map f qs))) [
    | Some x ↦ λ _. ap (λ t. x ∷ t) (listed-take f qs i kept.1)
    | None ↦ λ none. absurd (true≢false (sym none))
  ] kept.0

  pub listed-drop : (f : ℕ → Option X) (order : List ℕ) (i : ℕ) → AreKept f order → filter_map f (drop i order) ≡ drop i (filter_map f order)
  listed-drop f order zero kept = refl
  listed-drop f [] (suc i) kept = refl
  listed-drop f (q ∷ qs) (suc i) kept = elim (f q) as (λ o. is_some o ≡ true → filter_map f (drop i qs) ≡ drop (suc i) (cons_option o (filter_map f qs))) [
    | Some x ↦ λ _. listed-drop f qs i kept.1
    | None ↦ λ none. absurd (true≢false (sym none))
  ] kept.0

  -- what is listed at an index is what stands at the place there
  pub listed-found : (f : ℕ → Option X) (order : List ℕ) (i p : ℕ) → AreKept f order → slice_get order i ≡ Some p → slice_get (filter_map f order) i ≡ f p
  listed-found f [] i p kept e = absurd (true≢false (sym (ap is_some e)))
  listed-found f (q ∷ qs) zero p kept e = elim (f q) as (λ o. is_some o ≡ true → f q ≡ o → slice_get (cons_option o (filter_map f qs)) 0 ≡ f p) [
    | Some x ↦ λ _ is. sym is ∙ ap f (Some-same e)
    | None ↦ λ none _. absurd (true≢false (sym none))
  ] kept.0 refl
  listed-found f (q ∷ qs) (suc i) p kept e = elim (f q) as (λ o. is_some o ≡ true → slice_get (cons_option o (filter_map f qs)) (suc i) ≡ f p) [
    | Some x ↦ λ _. listed-found f qs i p kept.1 e
    | None ↦ λ none. absurd (true≢false (sym none))
  ] kept.0

  pub listed-past : (f : ℕ → Option X) (order : List ℕ) (i : ℕ) → AreKept f order → slice_get order i ≡ None → slice_get (filter_map f order) i ≡ None
  listed-past f [] i kept e = refl
  listed-past f (q ∷ qs) zero kept e = absurd (true≢false (ap is_some e))
  listed-past f (q ∷ qs) (suc i) kept e = elim (f q) as (λ o. is_some o ≡ true → slice_get (cons_option o (filter_map f qs)) (suc i) ≡ None) [
    | Some x ↦ λ _. listed-past f qs i kept.1 e
    | None ↦ λ none. absurd (true≢false (sym none))
  ] kept.0

  module _ (f g : ℕ → Option X) (order : List ℕ) (place : ℕ) (has : (p : ℕ) → 0 < times p order → is_some (f p) ≡ true) (others : (p : ℕ) → p ≢ place → g p ≡ f p) where
    agree_but : (some : List ℕ) → times place some ≡ 0 → (p : ℕ) → 0 < times p some → f p ≡ g p
    agree_but some none p more = sym (others p (λ same. absurd (omega (arith, more, ap (λ q. times q some) same, none))))

    -- a value at a new place
    pub listed-insert : (i : ℕ) (x : X) → times place order ≡ 0 → g place ≡ Some x → filter_map g (insert order i place) ≡ insert (filter_map f order) i x
    listed-insert i x none new =
        let same = listed-agree f g order (agree_but order none) in
        let kept = kept_from g order (λ p more. ap is_some (sym (agree_but order none p more)) ∙ has p more) in
        filter_map-append g (take i order) (place ∷ drop i order)
        ∙ ap (λ o. filter_map g (take i order) ++ cons_option o (filter_map g (drop i order))) new
        ∙ ap (λ t. t ++ x ∷ filter_map g (drop i order)) (listed-take g order i kept)
        ∙ ap (λ t. take i (filter_map g order) ++ x ∷ t) (listed-drop g order i kept)
        ∙ ap (λ t. insert t i x) (sym same)

    -- a place less
    pub listed-remove : (i : ℕ) → times place (remove order i) ≡ 0 → filter_map g (remove order i) ≡ remove (filter_map f order) i
    listed-remove i none =
        let kept = kept_from f order has in
        sym (listed-agree f g (remove order i) (agree_but (remove order i) none))
        ∙ filter_map-append f (take i order) (drop (suc i) order)
        ∙ ap (λ t. t ++ filter_map f (drop (suc i) order)) (listed-take f order i kept)
        ∙ ap (λ t. take i (filter_map f order) ++ t) (listed-drop f order (suc i) kept)

  -- another value at a place
  pub listed-set : (f g : ℕ → Option X) (order : List ℕ) (i place : ℕ) (y : X) → AreKept f order → slice_get order i ≡ Some place → times place order ≡ 1 → g place ≡ Some y → ((p : ℕ) → p ≢ place → g p ≡ f p) → filter_map g order ≡ set (filter_map f order) i y
  listed-set f g [] i place y kept e once new others = absurd (true≢false (sym (ap is_some e)))
  listed-set f g (q ∷ qs) zero place y kept e once new others =
      let here : q ≡ place = Some-same e in
      let none : times place qs ≡ 0 = omega (arith, once, times-cons place q qs, same_place q place here) in
      let rest = listed-agree f g qs (λ p more. sym (others p (λ same. absurd (omega (arith, more, ap (λ q. times q qs) same, none))))) in
      elim (f q) as (λ o. is_some o ≡ true → cons_option (g q) (filter_map g qs) ≡ set (cons_option o (filter_map f qs)) 0 y) [
        | Some x ↦ λ _. ap (λ o. cons_option o (filter_map g qs)) (ap g here ∙ new) ∙ ap (λ t. y ∷ t) (sym rest)
        | None ↦ λ none. absurd (true≢false (sym none))
      ] kept.0
  listed-set f g (q ∷ qs) (suc i) place y kept e once new others =
      let at : 0 < times place qs = times-some qs i place e in
      let other : q ≢ place = λ same. absurd (omega (arith, once, at, times-cons place q qs, same_place q place same)) in
      let rest = listed-set f g qs i place y kept.1 e (omega (arith, once, at, times-cons place q qs)) new others in
      elim (f q) as (λ o. is_some o ≡ true → f q ≡ o → cons_option (g q) (filter_map g qs) ≡ set (cons_option o (filter_map f qs)) (suc i) y) [
        | Some x ↦ λ _ is. ap (λ o. cons_option o (filter_map g qs)) (others q other ∙ is) ∙ ap (λ t. x ∷ t) rest
        | None ↦ λ none _. absurd (true≢false (sym none))
      ] kept.0 refl
    where
      times-some : (qs : List ℕ) (i place : ℕ) → slice_get qs i ≡ Some place → 0 < times place qs
      times-some [] i place e = absurd (true≢false (sym (ap is_some e)))
      times-some (q ∷ qs) zero place e = omega (arith, times-cons place q qs, same_place q place (Some-same e))
      times-some (q ∷ qs) (suc i) place e = omega (arith, times-rest place q qs, times-some qs i place e)

-- an element of a list that has an index
pub first_of : {X : Type 0} (xs : List X) (i : ℕ) → i < length xs → X
first_of [] i lt = absurd (omega arith)
first_of (x ∷ xs) i lt = x

-- what is read inside a list is the same by default of anything
pub same_read : {X : Type 0} (xs : List X) (i : ℕ) (d e : X) → i < length xs → get_or xs i d ≡ get_or xs i e
same_read [] i d e lt = absurd (omega arith)
same_read (x ∷ xs) zero d e lt = refl
same_read (x ∷ xs) (suc i) d e lt = same_read xs i d e (omega arith)
