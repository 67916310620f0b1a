-- What calls that may want memory leave of a map of sets.
use Rattle.std.proofs.Common.{ℕ, ◌<◌, ◌+◌, ◌++◌, ◌∷◌, map, take, length, ⊎_elim, arith, ◌≡◌, Bool, true, false, not, List, [], Result, Ok, Err, OnOk, OnErr, Option, Some, None, is_some, refl, sym, ap, ◌∙◌, subst}
use Rattle.std.specs.declared.cmp.Ordering.{Ordering}
use Rattle.std.specs.Option.{option_map_or}
use Rattle.std.specs.FinMap.{IsAntisymmetric}
use Rattle.std.specs.FinMap.Entries.{find, put}
use Rattle.std.specs.Cmp.{IsTotalOrder}
use Rattle.std.specs.List.{slice_get}
use Rattle.std.proofs.lemmas.Bool.{false≢true}
use Rattle.std.proofs.lemmas.List.{append-nil, append_assoc, take_more}
use Rattle.std.proofs.lemmas.Option.{slice_get_cases}
use Rattle.hashed_keys.proofs.PairLists.{has-pairs}
use Rattle.sorted_keys.specs.Keys.{has, with_key, without, without_key, updated}
use Rattle.sorted_keys.proofs.KeyPlace.{sorted_with_key}
use Rattle.hashed_keys.specs.Pairs.{found, pairs_of, by_pair, IsPaired, IsFilled, is_filled}
use Rattle.hashed_keys.proofs.PairChanges.{found_sorted, filled_with, paired_put, insert_is}
use Rattle.hashed_keys.proofs.PairRemovals.{paired_out, paired_without_key, key_gone, last_out, filled_is, not_filled}

-- whether a key's set has lost its last second half
abbrev pub is_last : {B : Type 0} → Option (List B) → Bool
is_last f = option_map_or (λ set. not (is_filled set)) f false

-- the pairs of an entry, where there is one
abbrev pub pairs_of_entry : {A B : Type 0} → Option (A × List B) → List (A × B)
pairs_of_entry None = []
pairs_of_entry (Some e) = map (λ b. (e.0, b)) e.1

module _ {A B : Type 0} where
  pairs_of-append : (es fs : List (A × List B)) → pairs_of (es ++ fs) ≡ pairs_of es ++ pairs_of fs
  pairs_of-append [] fs = refl
  pairs_of-append (e ∷ es) fs = ap (λ l. map (λ b. (e.0, b)) e.1 ++ l) (pairs_of-append es fs) ∙ sym (append_assoc (map (λ b. (e.0, b)) e.1) (pairs_of es) (pairs_of fs))

  -- the pairs of one more entry
  pub more_pairs : (es : List (A × List B)) (i : ℕ) → i < length es → pairs_of (take (i + 1) es) ≡ pairs_of (take i es) ++ pairs_of_entry (slice_get es i)
  more_pairs es i lt = ⊎_elim
      (λ w.
      ap pairs_of (take_more es i w.0 lt ∙ ap (λ e. take i es ++ e ∷ []) w.3)
      ∙ pairs_of-append (take i es) (w.0 ∷ [])
      ∙ ap (λ l. pairs_of (take i es) ++ l) (append-nil (map (λ b. (w.0.0, b)) w.0.1) ∙ ap pairs_of_entry (sym w.2)))
      (λ w. absurd (omega (arith, w.0)))
      (slice_get_cases es i).1

module _ {A B : Type 0} (R : A → A → Ordering) (S : B → B → Ordering) where
  -- the sets with one second half more of a key
  abbrev pub with_second : A → B → List (A × List B) → List (A × List B)
  with_second a b es = put R a (with_key S b (found (find R a es))) es

  -- where the key has a set
  pub second_more : (a : A) (b : B) (es : List (A × List B)) → is_some (find R a es) ≡ true → updated R a (with_key S b) es ≡ with_second a b es
  second_more a b es some = go (find R a es) some where
    go : (f : Option (List B)) → is_some f ≡ true → option_map_or (λ v. put R a (with_key S b v) es) f es ≡ put R a (with_key S b (found f)) es
    go None e = absurd (false≢true e)
    go (Some v) e = refl

  -- and where it has none
  pub first_second : (a : A) (b : B) (es : List (A × List B)) → is_some (find R a es) ≡ false → put R a (with_key S b []) es ≡ with_second a b es
  first_second a b es none = go (find R a es) none where
    go : (f : Option (List B)) → is_some f ≡ false → put R a (with_key S b []) es ≡ put R a (with_key S b (found f)) es
    go None e = refl
    go (Some v) e = absurd (false≢true (sym e))

module _ {A B : Type 0} {R : A → A → Ordering} {S : B → B → Ordering} (o : IsTotalOrder R) (u : IsTotalOrder S) (r : IsAntisymmetric R) (s : IsAntisymmetric S) where
  -- what is found of a pair
  pub contains_is : (q : A × B) (es : List (A × List B)) (seen : List (A × B)) (f : Option (List B)) → f ≡ find R q.0 es → IsPaired R S es → pairs_of es ≡ seen → has S q.1 (found f) ≡ has (by_pair R S) q seen
  contains_is q es seen f is paired e = ap (λ f. has S q.1 (found f)) is ∙ sym (has-pairs o u q es paired.keys) ∙ ap (has (by_pair R S) q) e

  paired_with_second : (a : A) (b : B) (es : List (A × List B)) → IsPaired R S es → IsPaired R S (with_second R S a b es)
  paired_with_second a b es paired = paired_put o u r s a (with_key S b (found (find R a es))) es paired (sorted_with_key u b (found (find R a es)) (found_sorted o u r s a es paired)) (filled_with S b (found (find R a es)))

  module _ {T E : Type 0} (a : A) (b : B) (es new after : List (A × List B)) (paired : IsPaired R S es) (is : after ≡ with_second R S a b es) where
    pub paired_inserted : (result : Result T E) → OnOk result (new ≡ after) → OnErr result (new ≡ es) → IsPaired R S new
    paired_inserted (Ok x) added same = subst (IsPaired R S) (sym (added ∙ is)) (paired_with_second a b es paired)
    paired_inserted (Err x) added same = subst (IsPaired R S) (sym same) paired

    pub pairs_inserted : (result : Result T E) → OnOk result (new ≡ after) → OnOk result (pairs_of new ≡ with_key (by_pair R S) (a, b) (pairs_of es))
    pairs_inserted (Ok x) added = ap pairs_of (added ∙ is) ∙ insert_is o u r s a b es paired
    pairs_inserted (Err x) added = tt

  stays_filled : (f : Option (List B)) → is_last f ≡ false → (v : List B) → f ≡ Some v → IsFilled v
  stays_filled None e v some = let x : None ≡ Some v = some in absurd (let g : ⊥ = cc in g)
  stays_filled (Some set) e v some = filled_is v (go (is_filled v) (sym (ap is_last some) ∙ e)) where
    go : (t : Bool) → not t ≡ false → t ≡ true
    go true e = refl
    go false e = absurd (false≢true (sym e))

  is_gone : (f : Option (List B)) → is_last f ≡ true → found f ≡ []
  is_gone None e = refl
  is_gone (Some set) e = not_filled set (go (is_filled set) e) where
    go : (t : Bool) → not t ≡ true → t ≡ false
    go true e = sym e
    go false e = refl

  module _ (a : A) (b : B) (es : List (A × List B)) (paired : IsPaired R S es) where
    pub paired_left : is_last (find R a (updated R a (without S b) es)) ≡ false → IsPaired R S (updated R a (without S b) es)
    paired_left e = paired_out o u r s a b es paired (stays_filled (find R a (updated R a (without S b) es)) e)

    pub paired_gone : IsPaired R S (without_key R a (updated R a (without S b) es))
    paired_gone = subst (IsPaired R S) (sym (key_gone o u r s a b es paired)) (paired_without_key R S a es paired)

    pub pairs_gone : is_last (find R a (updated R a (without S b) es)) ≡ true → pairs_of (without_key R a (updated R a (without S b) es)) ≡ without (by_pair R S) (a, b) (pairs_of es)
    pairs_gone e = last_out o u r s a b es paired (is_gone (find R a (updated R a (without S b) es)) e)
