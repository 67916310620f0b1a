-- Pairs, kept as a map from first halves to the sets of their second ones.
use Rattle.std.specs.Prelude.{◌≡◌, Bool, true, false, Option, Some, None, List, [], ◌∷◌, ◌++◌, map, not, filter}
use Rattle.std.specs.declared.cmp.Ordering.{Ordering}
use Rattle.std.specs.List.{AllByRecursion as Each}
use Rattle.std.specs.List.Sorted.{IsStrictlySortedBy}
use Rattle.std.specs.Ordering.{then_cmp, on, eq_by_cmp}
use Rattle.sorted_keys.specs.Keys.{with_key, by_key}

-- the second halves that are found: none where there is no entry
abbrev pub found : {B : Type 0} → Option (List B) → List B
found None = []
found (Some bs) = bs

-- whether there are second halves
abbrev pub is_filled : {B : Type 0} → List B → Bool
is_filled [] = false
is_filled (b ∷ bs) = true

-- a key has second halves
abbrev pub IsFilled : {B : Type 0} → List B → Type 0
IsFilled bs = bs ≡ [] → ⊥

module _ {A B : Type 0} where
  -- the pairs of a map, in order
  abbrev pub pairs_of : List (A × List B) → List (A × B)
  pairs_of [] = []
  pairs_of (e ∷ es) = map (λ b. (e.0, b)) e.1 ++ pairs_of es

  -- the pairs that begin with a key
  abbrev pub beginning : (A → A → Ordering) → A → List (A × B) → List (A × B)
  beginning R a ps = filter (λ p. eq_by_cmp R a p.0) ps

  -- the second halves of a key
  abbrev pub seconds : (A → A → Ordering) → A → List (A × B) → List B
  seconds R a ps = map (λ p. p.1) (beginning R a ps)

  module _ (R : A → A → Ordering) (S : B → B → Ordering) where
    -- pairs by their first halves, and then by their second ones
    abbrev pub by_pair : A × B → A × B → Ordering
    by_pair = then_cmp (on (λ p. p.0) R) (on (λ p. p.1) S)

    -- the pairs with these second halves more of a key
    abbrev pub with_seconds : A → List B → List (A × B) → List (A × B)
    with_seconds a [] ps = ps
    with_seconds a (b ∷ bs) ps = with_key by_pair (a, b) (with_seconds a bs ps)

    -- the pairs with these second halves of a key in place of those that it has
    abbrev pub replaced : A → List B → List (A × B) → List (A × B)
    replaced a bs ps = with_seconds a bs (filter (λ p. not (eq_by_cmp R a p.0)) ps)

    -- a map of pairs: the keys in order, each with a set that is not empty
    pub record IsPaired (es : List (A × List B)) : Type 0 where
      pub keys : IsStrictlySortedBy (by_key R) es
      pub sets : Each (λ e. IsStrictlySortedBy S e.1) es
      pub filled : Each (λ e. IsFilled e.1) es
