-- What the counts of a policy become by each command.
use Rattle.std.proofs.Common.{ℕ, ◌+◌, ◌<◌, List, [], ◌∷◌, length, get_or, drop, count_by, Bool, true, false, not, cond, ◌||◌, ◌&&◌, ◌≡◌, Option, Some, None, refl, sym, ap, ◌∙◌, add-one, arith}
use Rattle.std.specs.List.Sorted.{IsStrictlySortedBy}
use Rattle.rbac_decide.proofs.Common.{IsTotalOrder, find, list_any, Each, is_eq, Ordering, has, by_key, Name, name_cmp, RoleSet, count_in}
use Rattle.rbac_decide.proofs.Common.{or_left, or_right, sum_by-cons, IsBelowAll, greater, ties_itself, names_total}
use Rattle.std.proofs.Math.Seq.{drop-cons}

-- ---- Counting

-- tests that agree on the members count the same
pub count_same : (p q : Name → Bool) (xs : List Name) → ((x : Name) → has name_cmp x xs ≡ true → p x ≡ q x) → count_by p xs ≡ count_by q xs
count_same p q [] same = refl
count_same p q (x ∷ xs) same =
    let rest = count_same p q xs (λ y m. same y (or_right _ _ m)) in
    sum_by-cons (λ y. cond (p y) 1 0) x xs
    ∙ (λ i. cond {A = ℕ} (same x (or_left _ _ (ties_itself names_total x)) i) 1 0 + rest i)
    ∙ sym (sum_by-cons (λ y. cond (q y) 1 0) x xs)

-- and of those where they agree, one passes one where one passes the other
pub any_alike : (p q : Name → Bool) (xs : List Name) → ((x : Name) → has name_cmp x xs ≡ true → p x ≡ q x) → list_any p xs ≡ list_any q xs
any_alike p q [] same = refl
any_alike p q (x ∷ xs) same = λ i. same x (or_left _ _ (ties_itself names_total x)) i || any_alike p q xs (λ y m. same y (or_right _ _ m)) i

-- where none passes, none is counted
pub count_none : (p : Name → Bool) (xs : List Name) → ((x : Name) → p x ≡ false) → count_by p xs ≡ 0
count_none p [] none = refl
count_none p (x ∷ xs) none = grind (arith, none x, count_none p xs none, sum_by-cons)

pub none_in : (test : Name → Bool) (o : Option RoleSet) → ((x : Name) → test x ≡ false) → count_in test o ≡ 0
none_in test None none = refl
none_in test (Some set) none = count_none test set.roles none

-- where none of them passes, none is counted
pub no_count : (test : Name → Bool) (xs : List Name) → list_any test xs ≡ false → count_by test xs ≡ 0
no_count test [] none = refl
no_count test (x ∷ xs) none = grind (arith, no_count test xs, sum_by-cons)

pub and_none : (n more : ℕ) → more ≡ 0 → n + more ≡ n
and_none n more e = omega arith

-- what passes one test or another is what passes the other, and what passes the one and not the other
pub count_split : (f a : Name → Bool) (xs : List Name) → count_by (λ r. f r || a r) xs ≡ count_by a xs + count_by (λ r. f r && not (a r)) xs
count_split f a [] = refl
count_split f a (x ∷ xs) =
    let rest = count_split f a xs in
    let whole = sum_by-cons (λ r. cond (f r || a r) 1 0) x xs in
    let first = sum_by-cons (λ r. cond (a r) 1 0) x xs in
    let second = sum_by-cons (λ r. cond (f r && not (a r)) 1 0) x xs in
    grind arith

-- ---- Entries in order

module _ {K X : Type 0} {R : K → K → Ordering} (o : IsTotalOrder R) where
  found_later : (e : K × X) (xs tail : List (K × X)) → IsBelowAll (by_key R) e xs → Each (λ x. find R x.0 tail ≡ Some x.1) xs → Each (λ x. find R x.0 (e ∷ tail) ≡ Some x.1) xs
  found_later e [] tail below all = tt
  found_later e (x ∷ xs) tail below all = (ap (λ r. cond (is_eq r) (Some e.1) (find R x.0 tail)) (greater o e.0 x.0 below.0) ∙ all.0, found_later e xs tail below.1 all.1)

  -- in sorted entries each is found
  pub found_each : (es : List (K × X)) → IsStrictlySortedBy (by_key R) es → Each (λ e. find R e.0 es ≡ Some e.1) es
  unfolding IsStrictlySortedBy
  found_each [] sorted = tt
  found_each (e ∷ es) sorted = (ap (λ b. cond b (Some e.1) (find R e.0 es)) (ties_itself o e.0), found_later e es es sorted.0 (found_each es sorted.1))

-- the rest of a list from its next element on
pub dropped : {X : Type 0} (xs : List X) (i : ℕ) (x : X) → i < length xs → x ≡ get_or xs i x → drop i xs ≡ x ∷ drop (i + 1) xs
dropped xs i x lt is = drop-cons xs i x lt ∙ (λ j. sym is j ∷ drop (sym (add-one i) j) xs)
