-- What is left of a map's pairs where some are taken out, and when two maps have the same pairs.
use Rattle.std.proofs.Common.{◌≡◌, Bool, true, false, not, cond, ◌&&◌, List, [], ◌∷◌, ◌++◌, map, Option, Some, None, refl, sym, ap, ◌∙◌}
use Rattle.std.specs.declared.cmp.Ordering.{Ordering}
use Rattle.std.specs.List.{filter, AllByRecursion as Each}
use Rattle.std.specs.List.Sorted.{IsStrictlySortedBy}
use Rattle.std.specs.Option.{option_map}
use Rattle.std.specs.Ordering.{eq_by_cmp}
use Rattle.std.specs.FinMap.{IsAntisymmetric}
use Rattle.std.specs.FinMap.Entries.{find}
use Rattle.std.specs.Cmp.{IsTotalOrder}
use Rattle.std.proofs.lemmas.Bool.{true≢false}
use Rattle.std.proofs.lemmas.List.Kept.{IsStrictlySortedBy-filter}
use Rattle.std.proofs.lemmas.List.Elements.{filter-append}
use Rattle.sorted_keys.specs.Keys.{has, without, by_key, without_key, updated}
use Rattle.sorted_keys.proofs.Order.{IsBelowAll}
use Rattle.sorted_keys.proofs.EntryPlace.{sorted_updated}
use Rattle.sorted_keys.proofs.Kept.{each_updated, each_found}
use Rattle.sorted_keys.proofs.Lists.{Each-filter}
use Rattle.sorted_keys.proofs.Lookups.{find-without_key, find-updated, same_found}
use Rattle.sorted_keys.proofs.Members.{has-without}
use Rattle.sorted_keys.proofs.Ties.{ties-pair, ties_itself, one_key}
use Rattle.hashed_keys.specs.Pairs.{found, pairs_of, by_pair, IsPaired, IsFilled, seconds, replaced, is_filled}
use Rattle.hashed_keys.proofs.PairLists.{by_pair_total, has-pairs, sorted-pairs}
use Rattle.hashed_keys.proofs.PairChanges.{same_pairs, seconds_is, pairs_sorted, sorted-replaced, has-replaced}

pub filled_is : {B : Type 0} (bs : List B) → is_filled bs ≡ true → IsFilled bs
filled_is [] t e = true≢false (sym t)
filled_is (b ∷ bs) t e = let g : ⊥ = cc in g

pub not_filled : {B : Type 0} (bs : List B) → is_filled bs ≡ false → bs ≡ []
not_filled [] e = refl
not_filled (b ∷ bs) e = absurd (true≢false e)

module _ {A B : Type 0} where
  -- sets of which none stays empty
  pub pairs_of-filled : (es : List (A × List B)) → pairs_of (filter (λ e. is_filled e.1) es) ≡ pairs_of es
  pairs_of-filled [] = refl
  pairs_of-filled (e ∷ es) = go (is_filled e.1) refl (pairs_of-filled es) where
    go : (t : Bool) → is_filled e.1 ≡ t → pairs_of (filter (λ e. is_filled e.1) es) ≡ pairs_of es
        → pairs_of (cond t (e ∷ filter (λ e. is_filled e.1) es) (filter (λ e. is_filled e.1) es)) ≡ (map (λ b. (e.0, b)) e.1 ++ pairs_of es)
    go true t rest = ap (λ l. map (λ b. (e.0, b)) e.1 ++ l) rest
    go false t rest = rest ∙ ap (λ bs. map (λ b. (e.0, b)) bs ++ pairs_of es) (sym (not_filled e.1 t))

  abbrev pub of_key : A → List B → List (A × B)
  of_key a bs = map (λ b. (a, b)) bs

  abbrev ends : (B → Bool) → A × B → Bool
  ends p x = p x.1

  filter-of_key : (p : B → Bool) (a : A) (bs : List B) → of_key a (filter p bs) ≡ filter (ends p) (of_key a bs)
  filter-of_key p a [] = refl
  filter-of_key p a (b ∷ bs) = go (p b) (filter-of_key p a bs) where
    go : (t : Bool) → of_key a (filter p bs) ≡ filter (ends p) (of_key a bs) → of_key a (cond t (b ∷ filter p bs) (filter p bs)) ≡ cond t ((a, b) ∷ filter (ends p) (of_key a bs)) (filter (ends p) (of_key a bs))
    go true rest = ap (λ l. (a, b) ∷ l) rest
    go false rest = rest

  -- sets that keep what passes
  pub pairs_of-kept : (p : B → Bool) (es : List (A × List B)) → pairs_of (map (λ e. (e.0, filter p e.1)) es) ≡ filter (λ x. p x.1) (pairs_of es)
  pairs_of-kept p [] = refl
  pairs_of-kept p (e ∷ es) =
      ap (λ l. map (λ b. (e.0, b)) (filter p e.1) ++ l) (pairs_of-kept p es)
      ∙ ap (λ l. l ++ filter (λ x. p x.1) (pairs_of es)) (filter-of_key p e.0 e.1)
      ∙ sym (filter-append (λ (x : A × B). p x.1) (map (λ b. (e.0, b)) e.1) (pairs_of es))

  all_filled : (es : List (A × List B)) → Each (λ e. IsFilled e.1) (filter (λ e. is_filled e.1) es)
  all_filled [] = tt
  all_filled (e ∷ es) = go (is_filled e.1) refl (all_filled es) where
    go : (t : Bool) → is_filled e.1 ≡ t → Each (λ e. IsFilled e.1) (filter (λ e. is_filled e.1) es)
        → Each (λ e. IsFilled e.1) (cond t (e ∷ filter (λ e. is_filled e.1) es) (filter (λ e. is_filled e.1) es))
    go true t rest = (filled_is e.1 t, rest)
    go false t rest = rest

  module _ (R : A → A → Ordering) (S : B → B → Ordering) where
    below_kept : (p : B → Bool) (e : A × List B) (es : List (A × List B)) → IsBelowAll (by_key R) e es → IsBelowAll (by_key R) (e.0, filter p e.1) (map (λ e. (e.0, filter p e.1)) es)
    below_kept p e [] below = tt
    below_kept p e (f ∷ fs) below = (below.0, below_kept p e fs below.1)

    keys_kept : (p : B → Bool) (es : List (A × List B)) → IsStrictlySortedBy (by_key R) es → IsStrictlySortedBy (by_key R) (map (λ e. (e.0, filter p e.1)) es)
    unfolding IsStrictlySortedBy
    keys_kept p [] sorted = tt
    keys_kept p (e ∷ es) sorted = (below_kept p e es sorted.0, keys_kept p es sorted.1)

    sets_kept : (p : B → Bool) (es : List (A × List B)) → Each (λ e. IsStrictlySortedBy S e.1) es → Each (λ (e : A × List B). IsStrictlySortedBy S e.1) (map (λ e. (e.0, filter p e.1)) es)
    sets_kept p [] sets = tt
    sets_kept p (e ∷ es) sets = (IsStrictlySortedBy-filter S p e.1 sets.0, sets_kept p es sets.1)

    -- the sets that keep what passes, and of which none stays empty
    pub paired_kept : (p : B → Bool) (es : List (A × List B)) → IsPaired R S es → IsPaired R S (filter (λ e. is_filled e.1) (map (λ e. (e.0, filter p e.1)) es))
    paired_kept p es paired = record {
      keys = IsStrictlySortedBy-filter (by_key R) (λ e. is_filled e.1) _ (keys_kept p es paired.keys);
      sets = Each-filter (λ e. IsStrictlySortedBy S e.1) (λ e. is_filled e.1) _ (sets_kept p es paired.sets);
      filled = all_filled (map (λ e. (e.0, filter p e.1)) es);
    }

    pub paired_without_key : (a : A) (es : List (A × List B)) → IsPaired R S es → IsPaired R S (without_key R a es)
    paired_without_key a es paired = record {
      keys = IsStrictlySortedBy-filter (by_key R) (λ e. not (eq_by_cmp R a e.0)) es paired.keys;
      sets = Each-filter (λ e. IsStrictlySortedBy S e.1) (λ e. not (eq_by_cmp R a e.0)) es paired.sets;
      filled = Each-filter (λ e. IsFilled e.1) (λ e. not (eq_by_cmp R a e.0)) es paired.filled;
    }

-- what a list is found as
abbrev as_found : {B : Type 0} → List B → Option (List B)
as_found [] = None
as_found (b ∷ bs) = Some (b ∷ bs)

filled_as_found : {B : Type 0} (bs : List B) → IsFilled bs → Some bs ≡ as_found bs
filled_as_found [] filled = absurd (filled refl)
filled_as_found (b ∷ bs) filled = refl

module _ {A B : Type 0} {R : A → A → Ordering} {S : B → B → Ordering} (o : IsTotalOrder R) (u : IsTotalOrder S) (r : IsAntisymmetric R) (s : IsAntisymmetric S) where
  found_is : (q : A) (es : List (A × List B)) → IsPaired R S es → find R q es ≡ as_found (seconds R q (pairs_of es))
  found_is q es paired = go (find R q es) refl ∙ ap as_found (sym (seconds_is o u r s q es paired)) where
    go : (f : Option (List B)) → find R q es ≡ f → find R q es ≡ as_found (found (find R q es))
    go None e = e ∙ ap (λ f. as_found (found f)) (sym e)
    go (Some bs) e = e ∙ filled_as_found bs (each_found R IsFilled q es bs e paired.filled) ∙ ap (λ f. as_found (found f)) (sym e)

  -- maps of the same pairs are one
  pub same_maps : (es fs : List (A × List B)) → IsPaired R S es → IsPaired R S fs → pairs_of es ≡ pairs_of fs → es ≡ fs
  same_maps es fs p f e = same_found R r o es fs p.keys f.keys (λ q. found_is q es p ∙ ap (λ ps. as_found (seconds R q ps)) e ∙ sym (found_is q fs f))

  -- a key that is taken out with its set
  pub key_out : (a : A) (es : List (A × List B)) → IsPaired R S es → pairs_of (without_key R a es) ≡ replaced R S a [] (pairs_of es)
  key_out a es paired =
      let after = paired_without_key R S a es paired in
      same_pairs o u r s (pairs_of (without_key R a es)) (replaced R S a [] (pairs_of es))
      (pairs_sorted o u r s (without_key R a es) after)
      (sorted-replaced o u r s a [] (pairs_of es) (pairs_sorted o u r s es paired))
      (λ q. has-pairs o u q (without_key R a es) after.keys
      ∙ ap (λ f. has S q.1 (found f)) (find-without_key R o a es q.0)
      ∙ here q (eq_by_cmp R q.0 a)
      ∙ ap (cond (eq_by_cmp R q.0 a) false) (sym (has-pairs o u q es paired.keys))
      ∙ sym (has-replaced o u r s a [] (pairs_of es) q))
    where
      here : (q : A × B) (t : Bool) → has S q.1 (found (cond t None (find R q.0 es))) ≡ cond t false (has S q.1 (found (find R q.0 es)))
      here q true = refl
      here q false = refl

  sets_without : (a : A) (b : B) (es : List (A × List B)) → Each (λ e. IsStrictlySortedBy S e.1) es → Each (λ e. IsStrictlySortedBy S e.1) (updated R a (without S b) es)
  sets_without a b es sets = each_updated R (IsStrictlySortedBy S) a (without S b) es (λ v _ sorted. IsStrictlySortedBy-filter S (λ x. not (eq_by_cmp S b x)) v sorted) sets

  -- the found set without a member
  found_without : (b : B) (f : Option (List B)) → found (option_map (without S b) f) ≡ without S b (found f)
  found_without b None = refl
  found_without b (Some bs) = refl

  -- a member that is taken out of its key's set is a pair that is taken out
  pub pair_out : (a : A) (b : B) (es : List (A × List B)) → IsPaired R S es → pairs_of (updated R a (without S b) es) ≡ without (by_pair R S) (a, b) (pairs_of es)
  pair_out a b es paired = same_pairs o u r s (pairs_of (updated R a (without S b) es)) (without (by_pair R S) (a, b) (pairs_of es))
      (sorted-pairs o u (updated R a (without S b) es) (sorted_updated o a (without S b) es paired.keys) (sets_without a b es paired.sets))
      (IsStrictlySortedBy-filter (by_pair R S) (λ p. not (eq_by_cmp (by_pair R S) (a, b) p)) (pairs_of es) (pairs_sorted o u r s es paired))
      (λ q. has-pairs o u q (updated R a (without S b) es) (sorted_updated o a (without S b) es paired.keys)
      ∙ ap (λ f. has S q.1 (found f)) (find-updated R o a (without S b) es q.0)
      ∙ here q (eq_by_cmp R q.0 a)
      ∙ ap (λ t. not (eq_by_cmp R q.0 a && eq_by_cmp S q.1 b) && t) (sym (has-pairs o u q es paired.keys))
      ∙ ap (λ t. not t && has (by_pair R S) q (pairs_of es)) (sym (ties-pair R S q (a, b)))
      ∙ sym (has-without (by_pair_total o u) (a, b) (pairs_of es) q))
    where
      here : (q : A × B) (t : Bool) → has S q.1 (found (cond t (option_map (without S b) (find R q.0 es)) (find R q.0 es))) ≡ (not (t && eq_by_cmp S q.1 b) && has S q.1 (found (find R q.0 es)))
      here q true = ap (has S q.1) (found_without b (find R q.0 es)) ∙ has-without u b (found (find R q.0 es)) q.1
      here q false = refl

  -- where its set stays filled
  pub paired_out : (a : A) (b : B) (es : List (A × List B)) → IsPaired R S es → ((v : List B) → find R a (updated R a (without S b) es) ≡ Some v → IsFilled v) → IsPaired R S (updated R a (without S b) es)
  paired_out a b es paired stays = record {
    keys = sorted_updated o a (without S b) es paired.keys;
    sets = sets_without a b es paired.sets;
    filled = each_updated R IsFilled a (without S b) es (λ v e _. stays (without S b v) (find-updated R o a (without S b) es a ∙ ap (λ t. cond t (option_map (without S b) (find R a es)) (find R a es)) (ties_itself o a) ∙ ap (option_map (without S b)) e)) paired.filled;
  }

  -- and where the key goes with its set
  pub key_gone : (a : A) (b : B) (es : List (A × List B)) → IsPaired R S es → without_key R a (updated R a (without S b) es) ≡ without_key R a es
  key_gone a b es paired = same_found R r o (without_key R a (updated R a (without S b) es)) (without_key R a es)
      (IsStrictlySortedBy-filter (by_key R) (λ e. not (eq_by_cmp R a e.0)) _ (sorted_updated o a (without S b) es paired.keys))
      (IsStrictlySortedBy-filter (by_key R) (λ e. not (eq_by_cmp R a e.0)) es paired.keys)
      (λ q. find-without_key R o a (updated R a (without S b) es) q
      ∙ ap (cond (eq_by_cmp R q a) None) (find-updated R o a (without S b) es q)
      ∙ here q (eq_by_cmp R q a)
      ∙ sym (find-without_key R o a es q))
    where
      here : (q : A) (t : Bool) → cond t None (cond t (option_map (without S b) (find R q es)) (find R q es)) ≡ cond t None (find R q es)
      here q true = refl
      here q false = refl

  -- a set that lost its last member goes with its key
  pub last_out : (a : A) (b : B) (es : List (A × List B)) → IsPaired R S es → found (find R a (updated R a (without S b) es)) ≡ [] → pairs_of (without_key R a (updated R a (without S b) es)) ≡ without (by_pair R S) (a, b) (pairs_of es)
  last_out a b es paired none =
      let sorted = sorted_updated o a (without S b) es paired.keys in
      let left = IsStrictlySortedBy-filter (by_key R) (λ e. not (eq_by_cmp R a e.0)) (updated R a (without S b) es) sorted in
      same_pairs o u r s (pairs_of (without_key R a (updated R a (without S b) es))) (pairs_of (updated R a (without S b) es))
      (sorted-pairs o u (without_key R a (updated R a (without S b) es)) left (Each-filter (λ e. IsStrictlySortedBy S e.1) (λ e. not (eq_by_cmp R a e.0)) (updated R a (without S b) es) (sets_without a b es paired.sets)))
      (sorted-pairs o u (updated R a (without S b) es) sorted (sets_without a b es paired.sets))
      (λ q. has-pairs o u q (without_key R a (updated R a (without S b) es)) left
      ∙ ap (λ f. has S q.1 (found f)) (find-without_key R o a (updated R a (without S b) es) q.0)
      ∙ here q (eq_by_cmp R q.0 a) refl
      ∙ sym (has-pairs o u q (updated R a (without S b) es) sorted))
      ∙ pair_out a b es paired
    where
      here : (q : A × B) (t : Bool) → eq_by_cmp R q.0 a ≡ t → has S q.1 (found (cond t None (find R q.0 (updated R a (without S b) es)))) ≡ has S q.1 (found (find R q.0 (updated R a (without S b) es)))
      here q true t = ap (has S q.1) (sym none ∙ ap (λ k. found (find R k (updated R a (without S b) es))) (sym (one_key r q.0 a t)))
      here q false t = refl
