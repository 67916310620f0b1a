-- The next element of a sorted list, after those that stand before it.
use Rattle.std.proofs.Common.{ℕ, List, [], ◌∷◌, ◌++◌, length, true, false, ◌||◌, ◌≡◌, ◌≤◌, leb, IsTrue, Some, None, refl, sym, ap, ◌∙◌, subst, arith, length-append, append_assoc}
use Rattle.std.proofs.lemmas.Bool.{or_left, or_right, leb-true}
use Rattle.std.proofs.lemmas.List.Folds.{list_any-append}
use Rattle.std.specs.declared.cmp.Ordering.{Ordering}
use Rattle.std.specs.declared.cmp.Ordering.TheVariants.{Less}
use Rattle.std.specs.List.{AllByRecursion as Each}
use Rattle.std.specs.List.Sorted.{IsStrictlySortedBy}
use Rattle.std.specs.Ordering.{eq_by_cmp}
use Rattle.std.specs.Cmp.{IsTotalOrder, tied_itself}
use Rattle.std.specs.Option.{option_map_or}
use Rattle.std.proofs.lemmas.Cmp.{on_total}
use Rattle.std.specs.FinMap.Entries.{find, put}
use Rattle.sorted_keys.specs.Keys.{has, with_key, by_key, updated}
use Rattle.sorted_keys.proofs.Lists.{Each-left, Each-right, Each-append}
use Rattle.sorted_keys.proofs.Order.{greater}
use Rattle.sorted_keys.proofs.Ties.{ties_itself}
use Rattle.rbac_rules.proofs.SoundSeparation.{is_false}

-- what holds of each element of a list holds of the next one, and of each up to it
pub each_next : {X : Type 0} (P : X → Type 0) (xs done : List X) (x : X) (rest : List X) → xs ≡ done ++ (x ∷ rest) → Each P xs → P x
each_next P xs done x rest e all = (Each-right P done (x ∷ rest) (subst (Each P) e all)).0

pub each_so_far : {X : Type 0} (P : X → Type 0) (xs done : List X) (x : X) (rest : List X) → xs ≡ done ++ (x ∷ rest) → Each P xs → Each P (done ++ (x ∷ []))
each_so_far P xs done x rest e all =
    Each-append P done (x ∷ []) (Each-left P done (x ∷ rest) (subst (Each P) e all)) (each_next P xs done x rest e all, tt)

-- there are fewer before it than in all, and so than the most that there may be
pub below_most : {X : Type 0} (xs done : List X) (x : X) (rest : List X) (most : ℕ) → xs ≡ done ++ (x ∷ rest) → length xs ≤ most → leb most (length done) ≡ false
below_most xs done x rest most e few = is_false _ (λ full.
    let many = leb-true most (length done) full in
    let whole = ap length e ∙ length-append done (x ∷ rest) in
    omega arith)

module _ {K : Type 0} {R : K → K → Ordering} (o : IsTotalOrder R) where
  -- each of what stands before an element of a sorted list is below it
  all_below : (done : List K) (x : K) (rest : List K) → IsStrictlySortedBy R (done ++ (x ∷ rest)) → Each (λ y. R y x ≡ Less) done
  unfolding IsStrictlySortedBy
  all_below [] x rest sorted = tt
  all_below (y ∷ ys) x rest sorted = ((Each-right (λ z. R y z ≡ Less) ys (x ∷ rest) sorted.0).0, all_below ys x rest sorted.1)

  -- and each of what stands after it is above it
  all_above : (done : List K) (x : K) (rest : List K) → IsStrictlySortedBy R (done ++ (x ∷ rest)) → Each (λ y. R x y ≡ Less) rest
  unfolding IsStrictlySortedBy
  all_above [] x rest sorted = sorted.0
  all_above (y ∷ ys) x rest sorted = all_above ys x rest sorted.1

  -- the front of a sorted list is sorted
  pub sorted_front : (xs ys : List K) → IsStrictlySortedBy R (xs ++ ys) → IsStrictlySortedBy R xs
  unfolding IsStrictlySortedBy
  sorted_front [] ys sorted = tt
  sorted_front (x ∷ xs) ys sorted = (Each-left (λ z. R x z ≡ Less) xs ys sorted.0, sorted_front xs ys sorted.1)

  pub has_front : (xs ys : List K) (q : K) → IsTrue (has R q xs) → IsTrue (has R q (xs ++ ys))
  has_front xs ys q m = list_any-append (eq_by_cmp R q) xs ys ∙ or_left _ _ m

  absent : (done : List K) (x : K) → Each (λ y. R y x ≡ Less) done → has R x done ≡ false
  absent [] x below = refl
  absent (y ∷ ys) x below = rw (greater o y x below.0) (absent ys x below.1)

  appended : (done : List K) (x : K) → Each (λ y. R y x ≡ Less) done → with_key R x done ≡ done ++ (x ∷ [])
  appended [] x below = refl
  appended (y ∷ ys) x below = rw (greater o y x below.0) (ap (λ t. y ∷ t) (appended ys x below.1))

  -- what is known of the next key
  pub record IsNextKey (xs done : List K) (x : K) : Type 0 where
    pub fresh : has R x done ≡ false
    pub grown : with_key R x done ≡ done ++ (x ∷ [])
    pub member : IsTrue (has R x xs)
    pub were : (q : K) → IsTrue (has R q done) → IsTrue (has R q xs)
    pub are : (q : K) → IsTrue (has R q (with_key R x done)) → IsTrue (has R q xs)

  pub next_key : (xs done : List K) (x : K) (rest : List K) → xs ≡ done ++ (x ∷ rest) → IsStrictlySortedBy R xs → IsNextKey xs done x
  next_key xs done x rest e sorted =
      let below = all_below done x rest (subst (IsStrictlySortedBy R) e sorted) in
      let parts : (q : K) → (has R q done || has R q (x ∷ rest)) ≡ has R q xs = λ q. sym (ap (has R q) e ∙ list_any-append (eq_by_cmp R q) done (x ∷ rest)) in
      record {
        fresh = absent done x below;
        grown = appended done x below;
        member = sym (parts x) ∙ or_right _ _ (or_left _ _ (ties_itself o x));
        were = λ q m. sym (parts q) ∙ or_left _ _ m;
        are = λ q m.
            ap (has R q) (e ∙ sym (append_assoc done (x ∷ []) rest))
            ∙ list_any-append (eq_by_cmp R q) (done ++ (x ∷ [])) rest
            ∙ or_left _ _ (subst (λ l. has R q l ≡ true) (appended done x below) m);
      }

module _ {K X : Type 0} {R : K → K → Ordering} (o : IsTotalOrder R) where
  unfound : (done : List (K × X)) (x : K × X) → Each (λ y. R y.0 x.0 ≡ Less) done → find R x.0 done ≡ None
  unfound [] x below = refl
  unfound (y ∷ ys) x below = rw (greater o y.0 x.0 below.0) (unfound ys x below.1)

  pub put_last : (done : List (K × X)) (x : K × X) → Each (λ y. R y.0 x.0 ≡ Less) done → put R x.0 x.1 done ≡ done ++ (x ∷ [])
  put_last [] x below = refl
  put_last (y ∷ ys) x below = rw (greater o y.0 x.0 below.0) (ap (λ t. y ∷ t) (put_last ys x below.1))

  -- the next entry, found nowhere before it, goes to the end
  pub next_entry : (es done : List (K × X)) (x : K × X) (rest : List (K × X)) → es ≡ done ++ (x ∷ rest) → IsStrictlySortedBy (by_key R) es
      → (find R x.0 done ≡ None) × (put R x.0 x.1 done ≡ done ++ (x ∷ []))
  next_entry es done x rest e sorted =
      let below = all_below (on_total (λ (y : K × X). y.0) o) done x rest (subst (IsStrictlySortedBy (by_key R)) e sorted) in
      (unfound done x below, put_last done x below)

  -- ---- An entry between others, and one behind others

  -- what the next entry is: above what stands before it, and below what stands after it
  pub record IsNextEntry (done : List (K × X)) (x : K × X) (rest : List (K × X)) : Type 0 where
    pub above : Each (λ y. R y.0 x.0 ≡ Less) done
    pub below : Each (λ y. R x.0 y.0 ≡ Less) rest

  pub next_of : (es done : List (K × X)) (x : K × X) (rest : List (K × X)) → es ≡ done ++ (x ∷ rest) → IsStrictlySortedBy (by_key R) es → IsNextEntry done x rest
  next_of es done x rest e sorted =
      let by_keys = on_total (λ (y : K × X). y.0) o in
      let parts = subst (IsStrictlySortedBy (by_key R)) e sorted in
      record { above = all_below by_keys done x rest parts; below = all_above by_keys done x rest parts }

  pub unfound_between : (before : List (K × X)) (x : K × X) (after : List (K × X)) → IsNextEntry before x after → find R x.0 (before ++ after) ≡ None
  unfound_between [] x [] next = refl
  unfound_between [] x (y ∷ ys) next = rw next.below.0 (unfound_between [] x ys (record { above = tt; below = next.below.1 }))
  unfound_between (y ∷ ys) x after next = rw (greater o y.0 x.0 next.above.0) (unfound_between ys x after (record { above = next.above.1; below = next.below }))

  pub put_between : (before : List (K × X)) (x : K × X) (after : List (K × X)) → IsNextEntry before x after → put R x.0 x.1 (before ++ after) ≡ before ++ (x ∷ after)
  put_between [] x [] next = refl
  put_between [] x (y ∷ ys) next = rw next.below.0 refl
  put_between (y ∷ ys) x after next = rw (greater o y.0 x.0 next.above.0) (ap (λ t. y ∷ t) (put_between ys x after (record { above = next.above.1; below = next.below })))

  pub found_last : (before : List (K × X)) (k : K) (v : X) → Each (λ y. R y.0 k ≡ Less) before → find R k (before ++ ((k, v) ∷ [])) ≡ Some v
  found_last [] k v below = rw (tied_itself o k) refl
  found_last (y ∷ ys) k v below = rw (greater o y.0 k below.0) (found_last ys k v below.1)

  put_last_anew : (before : List (K × X)) (k : K) (v w : X) → Each (λ y. R y.0 k ≡ Less) before → put R k w (before ++ ((k, v) ∷ [])) ≡ before ++ ((k, w) ∷ [])
  put_last_anew [] k v w below = rw (tied_itself o k) refl
  put_last_anew (y ∷ ys) k v w below = rw (greater o y.0 k below.0) (ap (λ t. y ∷ t) (put_last_anew ys k v w below.1))

  pub updated_last : (before : List (K × X)) (k : K) (v : X) (f : X → X) → Each (λ y. R y.0 k ≡ Less) before → updated R k f (before ++ ((k, v) ∷ [])) ≡ before ++ ((k, f v) ∷ [])
  updated_last before k v f below =
      ap (λ found. option_map_or (λ w. put R k (f w) (before ++ ((k, v) ∷ []))) found (before ++ ((k, v) ∷ []))) (found_last before k v below)
      ∙ put_last_anew before k v (f v) below
