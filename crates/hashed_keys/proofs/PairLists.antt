-- What the pairs of a map of sets are.
use Rattle.std.proofs.Common.{◌≡◌, Bool, true, false, cond, ◌||◌, ◌&&◌, List, [], ◌∷◌, ◌++◌, map, Some, None, refl, sym, ap, ◌∙◌}
use Rattle.std.specs.declared.cmp.Ordering.{Ordering}
use Rattle.std.specs.declared.cmp.Ordering.TheVariants.{Less, Equal}
use Rattle.std.specs.List.{AllByRecursion as Each}
use Rattle.std.specs.List.Sorted.{IsStrictlySortedBy}
use Rattle.std.specs.Ordering.{eq_by_cmp}
use Rattle.std.specs.FinMap.Entries.{find}
use Rattle.std.specs.Cmp.{IsTotalOrder, Equal-is, tied_itself}
use Rattle.std.proofs.lemmas.Cmp.{then_total, on_total}
use Rattle.sorted_keys.specs.Keys.{has, by_key}
use Rattle.sorted_keys.proofs.Order.{IsBelowAll}
use Rattle.sorted_keys.proofs.Lists.{Each-append}
use Rattle.sorted_keys.proofs.Ties.{ties-pair}
use Rattle.hashed_keys.specs.Pairs.{found, pairs_of, by_pair}

both_or : (t u v : Bool) → ((t && u) || (t && v)) ≡ (t && (u || v))
both_or true u v = refl
both_or false u v = refl

or_assoc : (a b c : Bool) → ((a || b) || c) ≡ (a || (b || c))
or_assoc true b c = refl
or_assoc false b c = refl

or_none : (a : Bool) → (a || false) ≡ a
or_none true = refl
or_none false = refl

module _ {K : Type 0} (R : K → K → Ordering) where
  pub has-append : (k : K) (xs ys : List K) → has R k (xs ++ ys) ≡ (has R k xs || has R k ys)
  has-append k [] ys = refl
  has-append k (x ∷ xs) ys = ap (λ b. eq_by_cmp R k x || b) (has-append k xs ys) ∙ sym (or_assoc (eq_by_cmp R k x) (has R k xs) (has R k ys))

  pub sorted-append : (xs ys : List K) → IsStrictlySortedBy R xs → IsStrictlySortedBy R ys → Each (λ x. IsBelowAll R x ys) xs → IsStrictlySortedBy R (xs ++ ys)
  unfolding IsStrictlySortedBy
  sorted-append [] ys s t below = t
  sorted-append (x ∷ xs) ys s t below = (Each-append (λ y. R x y ≡ Less) xs ys s.0 below.0, sorted-append xs ys s.1 t below.1)

module _ {A B : Type 0} {R : A → A → Ordering} {S : B → B → Ordering} (o : IsTotalOrder R) (u : IsTotalOrder S) where
  pub by_pair_total : IsTotalOrder (by_pair R S)
  by_pair_total = then_total (on_total (λ (p : A × B). p.0) o) (on_total (λ (p : A × B). p.1) u)

  -- the pairs of one key
  pub has-of_key : (q : A × B) (a : A) (bs : List B) → has (by_pair R S) q (map (λ b. (a, b)) bs) ≡ (eq_by_cmp R q.0 a && has S q.1 bs)
  has-of_key q a [] = elim (eq_by_cmp R q.0 a) as (λ t. false ≡ (t && false)) [ true ↦ refl | false ↦ refl ]
  has-of_key q a (b ∷ bs) =
      ap (λ t. t || has (by_pair R S) q (map (λ b. (a, b)) bs)) (ties-pair R S q (a, b))
      ∙ ap (λ t. (eq_by_cmp R q.0 a && eq_by_cmp S q.1 b) || t) (has-of_key q a bs)
      ∙ both_or (eq_by_cmp R q.0 a) (eq_by_cmp S q.1 b) (has S q.1 bs)

  -- nothing is found at a key that ties with one below all of them
  find-below : {X : Type 0} (q : A) (e : A × X) (es : List (A × X)) → R q e.0 ≡ Equal → IsBelowAll (by_key R) e es → find R q es ≡ None
  find-below q e [] tied below = refl
  find-below q e (f ∷ fs) tied below = rw (o.congr q e.0 f.0 tied ∙ below.0) (find-below q e fs tied below.1)

  -- the pairs of a map are what is found in it
  pub has-pairs : (q : A × B) (es : List (A × List B)) → IsStrictlySortedBy (by_key R) es → has (by_pair R S) q (pairs_of es) ≡ has S q.1 (found (find R q.0 es))
  unfolding IsStrictlySortedBy
  has-pairs q [] sorted = refl
  has-pairs q (e ∷ es) sorted =
      has-append (by_pair R S) q (map (λ b. (e.0, b)) e.1) (pairs_of es)
      ∙ ap (λ t. t || has (by_pair R S) q (pairs_of es)) (has-of_key q e.0 e.1)
      ∙ ap (λ t. (eq_by_cmp R q.0 e.0 && has S q.1 e.1) || t) (has-pairs q es sorted.1)
      ∙ here (eq_by_cmp R q.0 e.0) refl
    where
      here : (t : Bool) → eq_by_cmp R q.0 e.0 ≡ t → ((t && has S q.1 e.1) || has S q.1 (found (find R q.0 es))) ≡ has S q.1 (found (cond t (Some e.1) (find R q.0 es)))
      here true t = ap (λ f. has S q.1 e.1 || has S q.1 (found f)) (find-below q.0 e es ((Equal-is _).0 t) sorted.0) ∙ or_none (has S q.1 e.1)
      here false t = refl

  pub sorted-of_key : (a : A) (bs : List B) → IsStrictlySortedBy S bs → IsStrictlySortedBy (by_pair R S) (map (λ b. (a, b)) bs)
  unfolding IsStrictlySortedBy
  sorted-of_key a [] sorted = tt
  sorted-of_key a (b ∷ bs) sorted = (above bs sorted.0, sorted-of_key a bs sorted.1) where
    above : (cs : List B) → IsBelowAll S b cs → IsBelowAll (by_pair R S) (a, b) (map (λ b. (a, b)) cs)
    above [] below = tt
    above (c ∷ cs) below = (rw (tied_itself o a) below.0, above cs below.1)

  of_key_below : (a : A) (b : B) (f : A) (cs : List B) → R a f ≡ Less → IsBelowAll (by_pair R S) (a, b) (map (λ c. (f, c)) cs)
  of_key_below a b f [] l = tt
  of_key_below a b f (c ∷ cs) l = (rw l refl, of_key_below a b f cs l)

  pair_below : (e : A × List B) (b : B) (es : List (A × List B)) → IsBelowAll (by_key R) e es → IsBelowAll (by_pair R S) (e.0, b) (pairs_of es)
  pair_below e b [] below = tt
  pair_below e b (f ∷ fs) below = Each-append (λ y. by_pair R S (e.0, b) y ≡ Less) (map (λ c. (f.0, c)) f.1) (pairs_of fs) (of_key_below e.0 b f.0 f.1 below.0) (pair_below e b fs below.1)

  pairs_below : (e : A × List B) (bs : List B) (es : List (A × List B)) → IsBelowAll (by_key R) e es → Each (λ x. IsBelowAll (by_pair R S) x (pairs_of es)) (map (λ b. (e.0, b)) bs)
  pairs_below e [] es below = tt
  pairs_below e (b ∷ bs) es below = (pair_below e b es below, pairs_below e bs es below)

  -- the pairs of a map are in order
  pub sorted-pairs : (es : List (A × List B)) → IsStrictlySortedBy (by_key R) es → Each (λ e. IsStrictlySortedBy S e.1) es → IsStrictlySortedBy (by_pair R S) (pairs_of es)
  unfolding IsStrictlySortedBy
  sorted-pairs [] sorted sets = tt
  sorted-pairs (e ∷ es) sorted sets =
      sorted-append (by_pair R S) (map (λ b. (e.0, b)) e.1) (pairs_of es) (sorted-of_key e.0 e.1 sets.0) (sorted-pairs es sorted.1 sets.1) (pairs_below e e.1 es sorted.0)
