-- What changes of a map of sets make of its pairs.
use Rattle.std.proofs.Common.{◌≡◌, Bool, true, false, not, cond, ◌||◌, ◌&&◌, List, [], ◌∷◌, map, Option, Some, None, refl, sym, ap, ◌∙◌}
use Rattle.std.specs.declared.cmp.Ordering.{Ordering}
use Rattle.std.specs.declared.cmp.Ordering.TheVariants.{Less, Equal, Greater}
use Rattle.std.specs.List.{filter}
use Rattle.std.specs.List.Sorted.{IsStrictlySortedBy}
use Rattle.std.specs.Ordering.{eq_by_cmp}
use Rattle.std.specs.FinMap.{IsAntisymmetric}
use Rattle.std.specs.FinMap.Entries.{find, put, find-put, by_order}
use Rattle.std.specs.Cmp.{IsTotalOrder}
use Rattle.std.proofs.lemmas.List.Kept.{IsStrictlySortedBy-filter}
use Rattle.sorted_keys.specs.Exact.{pairs_exact}
use Rattle.sorted_keys.specs.Keys.{has, with_key}
use Rattle.sorted_keys.proofs.Order.{sorted_none}
use Rattle.sorted_keys.proofs.EntryPlace.{sorted_put}
use Rattle.sorted_keys.proofs.Kept.{each_put, each_found}
use Rattle.sorted_keys.proofs.KeyPlace.{sorted_with_key}
use Rattle.sorted_keys.proofs.Members.{has-with_key, has-filter, same_keys}
use Rattle.sorted_keys.proofs.Ties.{ties-pair, ties_flip, one_key}
use Rattle.hashed_keys.specs.Pairs.{found, pairs_of, by_pair, IsPaired, IsFilled, beginning, seconds, with_seconds, replaced}
use Rattle.hashed_keys.proofs.PairLists.{by_pair_total, has-of_key, has-pairs, sorted-pairs, sorted-of_key}

map_seconds : {A B : Type 0} (a : A) (bs : List B) → map (λ (p : A × B). p.1) (map (λ b. (a, b)) bs) ≡ bs
map_seconds a [] = refl
map_seconds a (b ∷ bs) = ap (λ l. b ∷ l) (map_seconds a bs)

pub filled_with : {B : Type 0} (S : B → B → Ordering) (b : B) (bs : List B) → IsFilled (with_key S b bs)
filled_with S b [] e = let g : ⊥ = cc in g
filled_with S b (x ∷ xs) e = go (S b x) e where
  go : (r : Ordering) → by_order r (b ∷ x ∷ xs) (x ∷ xs) (x ∷ with_key S b xs) ≡ [] → ⊥
  go Less e = let g : ⊥ = cc in g
  go Equal e = let g : ⊥ = cc in g
  go Greater e = let g : ⊥ = cc in g

-- one of two, by a test
or_else : (t u v : Bool) → ((t && u) || (not t && v)) ≡ cond t u v
or_else true u v = go u where
  go : (u : Bool) → (u || false) ≡ u
  go true = refl
  go false = refl
or_else false u v = refl

module _ {A B : Type 0} {R : A → A → Ordering} {S : B → B → Ordering} (o : IsTotalOrder R) (u : IsTotalOrder S) (r : IsAntisymmetric R) (s : IsAntisymmetric S) where
  -- lists of pairs that have the same pairs
  pub same_pairs : (xs ys : List (A × B)) → IsStrictlySortedBy (by_pair R S) xs → IsStrictlySortedBy (by_pair R S) ys → ((q : A × B) → has (by_pair R S) q xs ≡ has (by_pair R S) q ys) → xs ≡ ys
  same_pairs = same_keys (pairs_exact r s) (by_pair_total o u)

  -- the same test of a first half, either way round
  flipped : (a b : A) → eq_by_cmp R a b ≡ eq_by_cmp R b a
  flipped = ties_flip o r

  pub found_sorted : (a : A) (es : List (A × List B)) → IsPaired R S es → IsStrictlySortedBy S (found (find R a es))
  found_sorted a es paired = go (find R a es) refl where
    go : (f : Option (List B)) → find R a es ≡ f → IsStrictlySortedBy S (found f)
    go None e = sorted_none S
    go (Some bs) e = each_found R (IsStrictlySortedBy S) a es bs e paired.sets

  pub pairs_sorted : (es : List (A × List B)) → IsPaired R S es → IsStrictlySortedBy (by_pair R S) (pairs_of es)
  pairs_sorted es paired = sorted-pairs o u es paired.keys paired.sets

  -- the pairs that begin with a key are those of the set that is found
  pub beginning_is : (a : A) (es : List (A × List B)) → IsPaired R S es → beginning R a (pairs_of es) ≡ map (λ b. (a, b)) (found (find R a es))
  beginning_is a es paired = same_pairs (beginning R a (pairs_of es)) (map (λ b. (a, b)) (found (find R a es)))
      (IsStrictlySortedBy-filter (by_pair R S) (λ p. eq_by_cmp R a p.0) (pairs_of es) (pairs_sorted es paired))
      (sorted-of_key o u a (found (find R a es)) (found_sorted a es paired))
      (λ q. has-filter (pairs_exact r s) (λ p. eq_by_cmp R a p.0) (pairs_of es) q
      ∙ ap (λ t. eq_by_cmp R a q.0 && t) (has-pairs o u q es paired.keys)
      ∙ here q (eq_by_cmp R a q.0) refl
      ∙ ap (λ t. t && has S q.1 (found (find R a es))) (flipped a q.0)
      ∙ sym (has-of_key o u q a (found (find R a es))))
    where
      here : (q : A × B) (t : Bool) → eq_by_cmp R a q.0 ≡ t → (t && has S q.1 (found (find R q.0 es))) ≡ (t && has S q.1 (found (find R a es)))
      here q true t = ap (λ k. has S q.1 (found (find R k es))) (sym (one_key r a q.0 t))
      here q false t = refl

  pub seconds_is : (a : A) (es : List (A × List B)) → IsPaired R S es → seconds R a (pairs_of es) ≡ found (find R a es)
  seconds_is a es paired = ap (map (λ (p : A × B). p.1)) (beginning_is a es paired) ∙ map_seconds a (found (find R a es))

  -- a pair is one of the second halves of its first
  pub has-seconds : (a : A) (b : B) (ps : List (A × B)) → has S b (seconds R a ps) ≡ has (by_pair R S) (a, b) ps
  has-seconds a b [] = refl
  has-seconds a b (p ∷ ps) =
      go (eq_by_cmp R a p.0) (has-seconds a b ps)
      ∙ ap (λ v. v || has (by_pair R S) (a, b) ps) (sym (ties-pair R S (a, b) p))
    where
      go : (t : Bool) → has S b (seconds R a ps) ≡ has (by_pair R S) (a, b) ps → has S b (map (λ p. p.1) (cond t (p ∷ beginning R a ps) (beginning R a ps))) ≡ ((t && eq_by_cmp S b p.1) || has (by_pair R S) (a, b) ps)
      go true rest = ap (λ v. eq_by_cmp S b p.1 || v) rest
      go false rest = rest

  sorted-with_seconds : (a : A) (bs : List B) (ps : List (A × B)) → IsStrictlySortedBy (by_pair R S) ps → IsStrictlySortedBy (by_pair R S) (with_seconds R S a bs ps)
  sorted-with_seconds a [] ps sorted = sorted
  sorted-with_seconds a (b ∷ bs) ps sorted = sorted_with_key (by_pair_total o u) (a, b) (with_seconds R S a bs ps) (sorted-with_seconds a bs ps sorted)

  pub sorted-replaced : (a : A) (bs : List B) (ps : List (A × B)) → IsStrictlySortedBy (by_pair R S) ps → IsStrictlySortedBy (by_pair R S) (replaced R S a bs ps)
  sorted-replaced a bs ps sorted = sorted-with_seconds a bs (filter (λ p. not (eq_by_cmp R a p.0)) ps) (IsStrictlySortedBy-filter (by_pair R S) (λ p. not (eq_by_cmp R a p.0)) ps sorted)

  has-with_seconds : (a : A) (bs : List B) (ps : List (A × B)) (q : A × B) → has (by_pair R S) q (with_seconds R S a bs ps) ≡ ((eq_by_cmp R q.0 a && has S q.1 bs) || has (by_pair R S) q ps)
  has-with_seconds a [] ps q = go (eq_by_cmp R q.0 a) where
    go : (t : Bool) → has (by_pair R S) q ps ≡ ((t && false) || has (by_pair R S) q ps)
    go true = refl
    go false = refl
  has-with_seconds a (b ∷ bs) ps q =
      has-with_key (by_pair_total o u) (a, b) (with_seconds R S a bs ps) q
      ∙ ap (λ t. t || has (by_pair R S) q (with_seconds R S a bs ps)) (ties-pair R S q (a, b))
      ∙ ap (λ t. (eq_by_cmp R q.0 a && eq_by_cmp S q.1 b) || t) (has-with_seconds a bs ps q)
      ∙ go (eq_by_cmp R q.0 a) (eq_by_cmp S q.1 b) (has S q.1 bs) (has (by_pair R S) q ps)
    where
      go : (t x y z : Bool) → ((t && x) || ((t && y) || z)) ≡ ((t && (x || y)) || z)
      go true true y z = refl
      go true false y z = refl
      go false x y z = refl

  pub has-replaced : (a : A) (bs : List B) (ps : List (A × B)) (q : A × B) → has (by_pair R S) q (replaced R S a bs ps) ≡ cond (eq_by_cmp R q.0 a) (has S q.1 bs) (has (by_pair R S) q ps)
  has-replaced a bs ps q =
      has-with_seconds a bs (filter (λ p. not (eq_by_cmp R a p.0)) ps) q
      ∙ ap (λ t. (eq_by_cmp R q.0 a && has S q.1 bs) || t) (has-filter (pairs_exact r s) (λ p. not (eq_by_cmp R a p.0)) ps q)
      ∙ ap (λ t. (eq_by_cmp R q.0 a && has S q.1 bs) || (not t && has (by_pair R S) q ps)) (flipped a q.0)
      ∙ or_else (eq_by_cmp R q.0 a) (has S q.1 bs) (has (by_pair R S) q ps)

  has-found : (q : A × B) (a : A) (bs : List B) (es : List (A × List B)) → has S q.1 (found (cond (eq_by_cmp R q.0 a) (Some bs) (find R q.0 es))) ≡ cond (eq_by_cmp R q.0 a) (has S q.1 bs) (has S q.1 (found (find R q.0 es)))
  has-found q a bs es = elim (eq_by_cmp R q.0 a) as (λ t. has S q.1 (found (cond t (Some bs) (find R q.0 es))) ≡ cond t (has S q.1 bs) (has S q.1 (found (find R q.0 es)))) [ true ↦ refl | false ↦ refl ]

  pub paired_put : (a : A) (bs : List B) (es : List (A × List B)) → IsPaired R S es → IsStrictlySortedBy S bs → IsFilled bs → IsPaired R S (put R a bs es)
  paired_put a bs es paired sorted filled = record {
    keys = sorted_put o a bs es paired.keys;
    sets = each_put R (IsStrictlySortedBy S) a bs es sorted paired.sets;
    filled = each_put R IsFilled a bs es filled paired.filled;
  }

  -- a set that is put is the set of its key
  pub put_is : (a : A) (bs : List B) (es : List (A × List B)) → IsPaired R S es → IsStrictlySortedBy S bs → IsFilled bs → pairs_of (put R a bs es) ≡ replaced R S a bs (pairs_of es)
  put_is a bs es paired sorted filled =
      let after = paired_put a bs es paired sorted filled in
      same_pairs (pairs_of (put R a bs es)) (replaced R S a bs (pairs_of es))
      (pairs_sorted (put R a bs es) after)
      (sorted-replaced a bs (pairs_of es) (pairs_sorted es paired))
      (λ q. has-pairs o u q (put R a bs es) after.keys
      ∙ ap (λ f. has S q.1 (found f)) (find-put R o q.0 a bs es)
      ∙ has-found q a bs es
      ∙ ap (cond (eq_by_cmp R q.0 a) (has S q.1 bs)) (sym (has-pairs o u q es paired.keys))
      ∙ sym (has-replaced a bs (pairs_of es) q))

  -- a set with one more is a pair more
  pub replaced_more : (a : A) (b : B) (ps : List (A × B)) → IsStrictlySortedBy (by_pair R S) ps → replaced R S a (with_key S b (seconds R a ps)) ps ≡ with_key (by_pair R S) (a, b) ps
  replaced_more a b ps sorted = same_pairs (replaced R S a (with_key S b (seconds R a ps)) ps) (with_key (by_pair R S) (a, b) ps)
      (sorted-replaced a (with_key S b (seconds R a ps)) ps sorted)
      (sorted_with_key (by_pair_total o u) (a, b) ps sorted)
      (λ q. has-replaced a (with_key S b (seconds R a ps)) ps q
      ∙ ap (λ t. cond (eq_by_cmp R q.0 a) t (has (by_pair R S) q ps)) (has-with_key u b (seconds R a ps) q.1)
      ∙ here q (eq_by_cmp R q.0 a) refl
      ∙ ap (λ t. t || has (by_pair R S) q ps) (sym (ties-pair R S q (a, b)))
      ∙ sym (has-with_key (by_pair_total o u) (a, b) ps q))
    where
      here : (q : A × B) (t : Bool) → eq_by_cmp R q.0 a ≡ t → cond t (eq_by_cmp S q.1 b || has S q.1 (seconds R a ps)) (has (by_pair R S) q ps) ≡ ((t && eq_by_cmp S q.1 b) || has (by_pair R S) q ps)
      here q true t = ap (λ v. eq_by_cmp S q.1 b || v) (has-seconds a q.1 ps ∙ ap (λ k. has (by_pair R S) (k, q.1) ps) (sym (one_key r q.0 a t)))
      here q false t = refl

  pub insert_is : (a : A) (b : B) (es : List (A × List B)) → IsPaired R S es → pairs_of (put R a (with_key S b (found (find R a es))) es) ≡ with_key (by_pair R S) (a, b) (pairs_of es)
  insert_is a b es paired =
      put_is a (with_key S b (found (find R a es))) es paired (sorted_with_key u b (found (find R a es)) (found_sorted a es paired)) (filled_with S b (found (find R a es)))
      ∙ ap (λ bs. replaced R S a (with_key S b bs) (pairs_of es)) (sym (seconds_is a es paired))
      ∙ replaced_more a b (pairs_of es) (pairs_sorted es paired)
