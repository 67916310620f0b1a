-- The names that are gathered in a loop: those of a list, those that are kept of one, and the second halves of pairs that stand together.
use Rattle.std.proofs.Common.{ℕ, ◌≡◌, ◌+◌, ◌<◌, Bool, false, cond, ◌||◌, ◌&&◌, List, [], ◌∷◌, take, length, get_or, refl, sym, ◌∙◌, arith}
use Rattle.std.proofs.lemmas.List.{take_more}
use Rattle.std.proofs.lemmas.List.Folds.{list_any-append}
use Rattle.std.proofs.lemmas.List.Kept.{IsStrictlySortedBy-filter}
use Rattle.std.specs.List.{list_any, filter}
use Rattle.std.specs.List.Sorted.{IsStrictlySortedBy}
use Rattle.std.specs.declared.cmp.Ordering.{Ordering}
use Rattle.std.specs.Ordering.{eq_by_cmp, ordering_then}
use Rattle.sorted_keys.specs.Keys.{has, with_key}
use Rattle.sorted_keys.proofs.Members.{has-with_key, has-filter, same_keys}
use Rattle.sorted_keys.proofs.Ties.{ties-pair}
use Rattle.rbac_terms.specs.Name.{Name, name_cmp}
use Rattle.rbac_terms.proofs.NameLemmas.{names_total, names_exact}
use Rattle.rbac_reasons.proofs.WalkLemmas.{one_name}

-- whether a test passes for one of the elements up to the next
any_more : {X : Type 0} (passes : X → Bool) (xs : List X) (i : ℕ) (x : X) → i < length xs → x ≡ get_or xs i x → list_any passes (take (i + 1) xs) ≡ (list_any passes (take i xs) || (passes x || false))
any_more passes xs i x within is =
    grind (arith, take_more xs i x within, list_any-append passes (take i xs) (x ∷ []))

-- one name more of a list
pub name_more : (name : Name) (names : List Name) (i : ℕ) (more : Name) (set : List Name) → i < length names → more ≡ get_or names i more → has name_cmp name set ≡ has name_cmp name (take i names)
    → has name_cmp name (with_key name_cmp more set) ≡ has name_cmp name (take (i + 1) names)
name_more name names i more set within is before = grind (arith, any_more (eq_by_cmp name_cmp name) names i more within is, has-with_key names_total more set name)

-- ---- The names that pass a test

module _ (test : Name → Bool) where
  pub kept_more : (names : List Name) (i : ℕ) (x : Name) (kept then : List Name) → i < length names → x ≡ get_or names i x → then ≡ cond (test x) (with_key name_cmp x kept) kept
      → (q : Name) → has name_cmp q kept ≡ (test q && has name_cmp q (take i names)) → has name_cmp q then ≡ (test q && has name_cmp q (take (i + 1) names))
  kept_more names i x kept then within is made q before = rw made (grind (arith, any_more (eq_by_cmp name_cmp q) names i x within is, one_name q x, has-with_key names_total x kept q))

  pub kept_whole : (names kept : List Name) → IsStrictlySortedBy name_cmp names → IsStrictlySortedBy name_cmp kept → ((q : Name) → has name_cmp q kept ≡ (test q && has name_cmp q names)) → kept ≡ filter test names
  kept_whole names kept sorted sorted_kept members =
      same_keys names_exact names_total kept (filter test names) sorted_kept (IsStrictlySortedBy-filter name_cmp test names sorted) (λ q. members q ∙ sym (has-filter names_exact test names q))

-- ---- The second halves of the pairs with one first half

module _ {A : Type 0} (R : A → A → Ordering) where
  abbrev pub by_halves : A × Name → A × Name → Ordering
  by_halves x y = ordering_then (R x.0 y.0) (name_cmp x.1 y.1)

  abbrev pub ends_in : Name → A × Name → Bool
  ends_in name pair = eq_by_cmp name_cmp name pair.1

  pub second_among : (first : A) (name : Name) (pairs : List (A × Name)) → list_any (ends_in name) (filter (λ pair. eq_by_cmp R first pair.0) pairs) ≡ has by_halves (first, name) pairs
  second_among first name [] = refl
  second_among first name (p ∷ ps) = grind (arith, second_among first name ps, ties-pair R name_cmp (first, name) p)

  -- one pair more
  pub second_more : (name : Name) (pairs : List (A × Name)) (i : ℕ) (pair : A × Name) (names : List Name) → i < length pairs → pair ≡ get_or pairs i pair → has name_cmp name names ≡ list_any (ends_in name) (take i pairs)
      → has name_cmp name (with_key name_cmp pair.1 names) ≡ list_any (ends_in name) (take (i + 1) pairs)
  second_more name pairs i pair names within is before = grind (arith, any_more (ends_in name) pairs i pair within is, has-with_key names_total pair.1 names name)
