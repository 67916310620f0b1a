-- What stays of a set or of entries where a key is added, kept or changed, and how many are then there.
use Rattle.std.proofs.Common.{ℕ, List, [], ◌∷◌, length, Bool, true, false, cond, ◌||◌, ◌≡◌, ◌≤◌, ◌+◌, IsTrue, Option, Some, None, is_some, refl, sym, ap, ◌∙◌, subst, arith}
use Rattle.std.proofs.lemmas.Bool.{or_right, and_parts, and_from, false≢true}
use Rattle.std.proofs.lemmas.List.Sums.{length-filter, count_by-le-length}
use Rattle.std.specs.declared.cmp.Ordering.{Ordering}
use Rattle.std.specs.declared.cmp.Ordering.TheVariants.{Less, Equal, Greater}
use Rattle.std.specs.List.{filter, AllByRecursion as Each}
use Rattle.std.specs.List.Sorted.{IsStrictlySortedBy}
use Rattle.std.specs.Option.{option_map_or}
use Rattle.std.specs.Ordering.{eq_by_cmp, is_eq}
use Rattle.std.specs.Cmp.{IsTotalOrder}
use Rattle.std.specs.FinMap.{IsAntisymmetric}
use Rattle.std.specs.FinMap.Entries.{find, put, by_order}
use Rattle.sorted_keys.specs.Keys.{has, with_key, by_key, updated}
use Rattle.sorted_keys.proofs.Members.{has-with_key, has-filter}
use Rattle.sorted_keys.proofs.EntryPlace.{put_length}

module _ {K : Type 0} (R : K → K → Ordering) where
  pub length-with_key-new : (k : K) (xs : List K) → has R k xs ≡ false → length (with_key R k xs) ≡ length xs + 1
  length-with_key-new k [] e = refl
  length-with_key-new k (x ∷ xs) e = go (R k x) e (length-with_key-new k xs)
    where
      go : (r : Ordering) → (is_eq r || has R k xs) ≡ false → (has R k xs ≡ false → length (with_key R k xs) ≡ length xs + 1)
          → length (by_order r (k ∷ x ∷ xs) (x ∷ xs) (x ∷ with_key R k xs)) ≡ length (x ∷ xs) + 1
      go Less e rest = omega arith
      go Equal e rest = absurd (false≢true (sym e))
      go Greater e rest = let more = rest e in omega arith

  pub length-put-new : {X : Type 0} (k : K) (v : X) (es : List (K × X)) → is_some (find R k es) ≡ false → length (put R k v es) ≡ length es + 1
  length-put-new k v [] e = refl
  length-put-new {X} k v (x ∷ xs) e = go (R k x.0) e (length-put-new k v xs)
    where
      go : (r : Ordering) → is_some (cond (is_eq r) (Some x.1) (find R k xs)) ≡ false → (is_some (find R k xs) ≡ false → length (put R k v xs) ≡ length xs + 1)
          → length (by_order r ((k, v) ∷ x ∷ xs) ((x.0, v) ∷ xs) (x ∷ put R k v xs)) ≡ length (x ∷ xs) + 1
      go Less e rest = omega arith
      go Equal e rest = absurd (false≢true (sym e))
      go Greater e rest = let more = rest e in omega arith

-- a set is not longer than what it was filtered from
pub fewer : {X : Type 0} (p : X → Bool) (xs : List X) (most : ℕ) → length xs ≤ most → length (filter p xs) ≤ most
fewer p xs most h = let same = length-filter p xs in let less = count_by-le-length p xs in omega arith

module _ {K : Type 0} {R : K → K → Ordering} (o : IsTotalOrder R) where
  -- what is there stays where a key is added
  pub still : (k : K) (xs : List K) (q : K) → IsTrue (has R q xs) → IsTrue (has R q (with_key R k xs))
  still k xs q h = has-with_key o k xs q ∙ or_right _ _ h

  -- a member of what was kept passes, and was there
  pub was_kept : IsAntisymmetric R → (p : K → Bool) (xs : List K) (q : K) → IsTrue (has R q (filter p xs)) → (p q ≡ true) × IsTrue (has R q xs)
  was_kept exact p xs q h = and_parts _ _ (sym (has-filter exact p xs q) ∙ h)

  -- a member that passes is kept
  pub is_kept : IsAntisymmetric R → (p : K → Bool) (xs : List K) (q : K) → p q ≡ true → IsTrue (has R q xs) → IsTrue (has R q (filter p xs))
  is_kept exact p xs q passes h = has-filter exact p xs q ∙ and_from _ _ passes h

-- ---- Entries, each with a sound value

module _ {K X : Type 0} (R : K → K → Ordering) (P : X → Type 0) where
  pub each_found : (k : K) (es : List (K × X)) (v : X) → find R k es ≡ Some v → Each (λ e. P e.1) es → P v
  each_found k [] v e all = let f : None ≡ Some v = e in absurd (let g : ⊥ = cc in g)
  each_found k (x ∷ xs) v e all = go (eq_by_cmp R k x.0) e (λ f. each_found k xs v f all.1)
    where
      go : (b : Bool) → cond b (Some x.1) (find R k xs) ≡ Some v → (find R k xs ≡ Some v → P v) → P v
      go true e rest = subst P (let same : x.1 ≡ v = cc in same) all.0
      go false e rest = rest e

  pub each_put : (k : K) (v : X) (es : List (K × X)) → P v → Each (λ e. P e.1) es → Each (λ e. P e.1) (put R k v es)
  each_put k v [] here all = (here, tt)
  each_put k v (x ∷ xs) here all = go (R k x.0) (each_put k v xs here all.1)
    where
      go : (r : Ordering) → Each (λ e. P e.1) (put R k v xs) → Each (λ e. P e.1) (by_order r ((k, v) ∷ x ∷ xs) ((x.0, v) ∷ xs) (x ∷ put R k v xs))
      go Less rest = (here, all)
      go Equal rest = (here, all.1)
      go Greater rest = (all.0, rest)

  pub each_updated : (k : K) (f : X → X) (es : List (K × X)) → ((v : X) → find R k es ≡ Some v → P v → P (f v)) → Each (λ e. P e.1) es → Each (λ e. P e.1) (updated R k f es)
  each_updated k f es keeps all = go (find R k es) refl
    where
      go : (found : Option X) → find R k es ≡ found → Each (λ e. P e.1) (option_map_or (λ v. put R k (f v) es) found es)
      go None e = all
      go (Some v) e = each_put k (f v) es (keeps v e (each_found k es v e all)) all

module _ {K X : Type 0} {R : K → K → Ordering} (o : IsTotalOrder R) where
  pub length-updated : (k : K) (f : X → X) (es : List (K × X)) → IsStrictlySortedBy (by_key R) es → length (updated R k f es) ≡ length es
  length-updated k f es sorted = go (find R k es) refl
    where
      go : (found : Option X) → find R k es ≡ found → length (option_map_or (λ v. put R k (f v) es) found es) ≡ length es
      go None e = refl
      go (Some v) e = put_length o k (f v) es sorted (ap is_some e)

-- what was kept has what comes of what it had and of passing
pub each_kept : {X : Type 0} (p : X → Bool) (P Q : X → Type 0) → ((x : X) → P x → p x ≡ true → Q x) → (xs : List X) → Each P xs → Each Q (filter p xs)
each_kept p P Q f [] all = tt
each_kept p P Q f (x ∷ xs) all = go (p x) refl (each_kept p P Q f xs all.1)
  where
    go : (b : Bool) → p x ≡ b → Each Q (filter p xs) → Each Q (cond b (x ∷ filter p xs) (filter p xs))
    go true e rest = (f x all.0 e, rest)
    go false e rest = rest
