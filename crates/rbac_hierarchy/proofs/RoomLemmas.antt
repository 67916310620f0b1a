-- How much room pairs want.
use Rattle.std.proofs.Common.{ℕ, ◌≡◌, ◌<◌, ◌≤◌, ◌+◌, Bool, true, false, ◌||◌, cond, List, [], ◌∷◌, length, filter, take, refl, sym, ap, ◌∙◌, arith}
use Rattle.std.proofs.lemmas.Bool.{or_left, or_right, both_ways, true≢false}
use Rattle.std.proofs.lemmas.List.{take_more, get_or-take, length-take-le}
use Rattle.std.specs.declared.cmp.Ordering.{Ordering}
use Rattle.std.specs.declared.cmp.Ordering.TheVariants.{Less, Equal, Greater}
use Rattle.std.specs.FinMap.Entries.{by_order}
use Rattle.std.specs.Ordering.{eq_by_cmp}
use Rattle.sorted_keys.specs.Keys.{has, with_key}
use Rattle.sorted_keys.proofs.Kept.{fewer}
use Rattle.sorted_keys.proofs.Ties.{one_key, ties_itself}
use Rattle.rbac_terms.specs.Name.{Name, name_cmp}
use Rattle.rbac_terms.proofs.NameLemmas.{names_total, names_exact}
use Rattle.rbac_hierarchy.specs.Numbers.{role_at, AreNumbered}
use Rattle.rbac_hierarchy.proofs.ExactLemmas.{fails}
use Rattle.rbac_hierarchy.proofs.Kept.{any-append}
use Rattle.rbac_hierarchy.proofs.NumberLemmas.{number_in}

-- a key more makes a set longer by one at most
pub one_longer : {K : Type 0} (R : K → K → Ordering) (k : K) (xs : List K) → length (with_key R k xs) ≤ length xs + 1
one_longer R k [] = omega arith
one_longer R k (x ∷ xs) = go (R k x) (one_longer R k xs)
  where
    go : (r : Ordering) → length (with_key R k xs) ≤ length xs + 1 → length (by_order r (k ∷ x ∷ xs) (x ∷ xs) (x ∷ with_key R k xs)) ≤ length (x ∷ xs) + 1
    go Less rest = omega arith
    go Equal rest = omega arith
    go Greater rest = omega (arith, rest)

-- what passes one of two tests, of which none passes both, is among what passes a third
pub apart_fewer : {X : Type 0} (p q r : X → Bool) (xs : List X) → ((x : X) → p x ≡ true → r x ≡ true) → ((x : X) → q x ≡ true → r x ≡ true) → ((x : X) → p x ≡ true → q x ≡ false)
    → length (filter p xs) + length (filter q xs) ≤ length (filter r xs)
apart_fewer p q r [] from_p from_q apart = omega arith
apart_fewer {X} p q r (x ∷ xs) from_p from_q apart = go (p x) refl (q x) refl (r x) refl (apart_fewer p q r xs from_p from_q apart)
  where
    go : (a : Bool) → p x ≡ a → (b : Bool) → q x ≡ b → (c : Bool) → r x ≡ c → length (filter p xs) + length (filter q xs) ≤ length (filter r xs)
        → length (cond a (x ∷ filter p xs) (filter p xs)) + length (cond b (x ∷ filter q xs) (filter q xs)) ≤ length (cond c (x ∷ filter r xs) (filter r xs))
    go true e true f c g rest = absurd (both_ways _ (apart x e) f)
    go true e false f true g rest = omega (arith, rest)
    go true e false f false g rest = absurd (both_ways _ g (from_p x e))
    go false e true f true g rest = omega (arith, rest)
    go false e true f false g rest = absurd (both_ways _ g (from_q x f))
    go false e false f true g rest = omega (arith, rest)
    go false e false f false g rest = rest

-- how many pairs have an ascendant with a number below one
abbrev pub pairs_below : List Name → List (Name × Name) → ℕ → ℕ
pairs_below names declared upto = length (filter (λ p. has name_cmp p.0 (take upto names)) declared)

module _ (names : List Name) (declared : List (Name × Name)) (upto : ℕ) (in_upto : upto < length names) where
  up_to_one_more : (r : Name) → has name_cmp r (take (upto + 1) names) ≡ (has name_cmp r (take upto names) || (eq_by_cmp name_cmp r (role_at names upto) || false))
  up_to_one_more r = ap (has name_cmp r) (take_more names upto [] in_upto) ∙ any-append (eq_by_cmp name_cmp r) (take upto names) (role_at names upto ∷ [])

  -- the pairs of the next ascendant are others than those before
  pub next_pairs : AreNumbered names → (ascendant : Name) → role_at names upto ≡ ascendant
      → pairs_below names declared upto + length (filter (λ p. eq_by_cmp name_cmp ascendant p.0) declared) ≤ pairs_below names declared (upto + 1)
  next_pairs numbered ascendant is = apart_fewer (λ p. has name_cmp p.0 (take upto names)) (λ p. eq_by_cmp name_cmp ascendant p.0) (λ p. has name_cmp p.0 (take (upto + 1) names)) declared
      (λ p m. up_to_one_more p.0 ∙ or_left _ _ m)
      (λ p m. up_to_one_more p.0 ∙ or_right _ _ (or_left _ _ (ap (λ r. eq_by_cmp name_cmp r (role_at names upto)) (sym (one_key names_exact ascendant p.0 m) ∙ sym is) ∙ ties_itself names_total (role_at names upto))))
      (λ p m. fails _ (λ same.
      let k = number_in (take upto names) p.0 m in
      let before : k.0 < upto = omega (arith, k.1, length-take-le upto names (omega (arith, in_upto))) in
      let again : role_at names k.0 ≡ role_at names upto = sym (get_or-take upto names k.0 [] before) ∙ k.2 ∙ sym (one_key names_exact ascendant p.0 same) ∙ sym is in
      let equal = numbered k.0 upto (omega (arith, before, in_upto)) in_upto again in
      absurd (omega (arith, before, equal))))

  pub no_fewer_pairs : pairs_below names declared upto ≤ pairs_below names declared (upto + 1)
  no_fewer_pairs = let more = apart_fewer (λ p. has name_cmp p.0 (take upto names)) (λ p. false) (λ p. has name_cmp p.0 (take (upto + 1) names)) declared (λ p m. up_to_one_more p.0 ∙ or_left _ _ m) (λ p m. absurd (true≢false (sym m))) (λ p m. refl) in omega (arith, more)

pub not_more_pairs : (names : List Name) (declared : List (Name × Name)) (upto : ℕ) → pairs_below names declared upto ≤ length declared
not_more_pairs names declared upto = fewer (λ p. has name_cmp p.0 (take upto names)) declared (length declared) (omega arith)
