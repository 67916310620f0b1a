-- One step of a walk along the entries in order.
use Rattle.std.proofs.Common.{ℕ, zero, suc, ◌≡◌, ◌<◌, ◌+◌, ◌||◌, Bool, true, false, cond, List, [], ◌∷◌, ◌++◌, length, get_or, set, take, drop, map, filter, refl, sym, ap, ◌∙◌, arith}
use Rattle.std.specs.declared.cmp.Ordering.{Ordering}
use Rattle.std.specs.declared.cmp.Ordering.TheVariants.{Less}
use Rattle.std.specs.Cmp.{IsTotalOrder}
use Rattle.std.specs.FinMap.Entries.{put}
use Rattle.std.specs.List.{list_any, remove}
use Rattle.std.specs.List.Sorted.{IsStrictlySortedBy}
use Rattle.std.proofs.lemmas.List.{drop_more}
use Rattle.std.proofs.lemmas.Map.Keys.{Less-from_sorted}
use Rattle.sorted_keys.specs.Keys.{by_key}
use Rattle.sorted_keys.proofs.Order.{greater}

-- whether some item from here on passes
pub any_from : {X : Type 0} (p : X → Bool) (xs : List X) (i : ℕ) (d : X) (b : Bool) → i < length xs → p (get_or xs i d) ≡ b → list_any p (drop i xs) ≡ (b || list_any p (drop (i + 1) xs))
any_from p xs i d b lt is = ap (list_any p) (drop_more xs i d lt) ∙ ap (λ t. t || list_any p (drop (i + 1) xs)) is

-- one item more is changed
change_step : {X : Type 0} (f : X → X) (xs : List X) (i : ℕ) (d : X) → i < length xs → set (map f (take i xs) ++ drop i xs) i (f (get_or (map f (take i xs) ++ drop i xs) i d)) ≡ map f (take (suc i) xs) ++ drop (suc i) xs
change_step f [] i d lt = absurd (omega arith)
change_step f (x ∷ xs) zero d lt = refl
change_step f (x ∷ xs) (suc i) d lt = ap (λ t. f x ∷ t) (change_step f xs i d (omega arith))

pub changed_next : {X : Type 0} (f : X → X) (xs now : List X) (i : ℕ) (d : X) → i < length xs → now ≡ map f (take i xs) ++ drop i xs → set now i (f (get_or now i d)) ≡ map f (take (i + 1) xs) ++ drop (i + 1) xs
changed_next f xs now i d lt is =
    let next : suc i ≡ i + 1 = omega arith in
    ap (λ t. set t i (f (get_or t i d))) is ∙ change_step f xs i d lt ∙ ap (λ j. map f (take j xs) ++ drop j xs) next

-- an item that is kept, and one that is taken out, before those that are kept behind it
keep_step : {X : Type 0} (p : X → Bool) (xs : List X) (i : ℕ) (d : X) → i < length xs → p (get_or xs i d) ≡ true → take (suc i) xs ++ filter p (drop (suc i) xs) ≡ take i xs ++ filter p (drop i xs)
keep_step p [] i d lt is = absurd (omega arith)
keep_step p (x ∷ xs) zero d lt is = sym (ap (λ b. cond b (x ∷ filter p xs) (filter p xs)) is)
keep_step p (x ∷ xs) (suc i) d lt is = ap (λ t. x ∷ t) (keep_step p xs i d (omega arith) is)

drop_step : {X : Type 0} (p : X → Bool) (xs : List X) (i : ℕ) (d : X) → i < length xs → p (get_or xs i d) ≡ false → remove (take (suc i) xs ++ filter p (drop (suc i) xs)) i ≡ take i xs ++ filter p (drop i xs)
drop_step p [] i d lt is = absurd (omega arith)
drop_step p (x ∷ xs) zero d lt is = sym (ap (λ b. cond b (x ∷ filter p xs) (filter p xs)) is)
drop_step p (x ∷ xs) (suc i) d lt is = ap (λ t. x ∷ t) (drop_step p xs i d (omega arith) is)

-- what is read before the part that is kept
read_before : {X : Type 0} (xs ys : List X) (i : ℕ) (d : X) → i < length xs → get_or (take (suc i) xs ++ ys) i d ≡ get_or xs i d
read_before [] ys i d lt = absurd (omega arith)
read_before (x ∷ xs) ys zero d lt = refl
read_before (x ∷ xs) ys (suc i) d lt = read_before xs ys i d (omega arith)

module _ {X : Type 0} (p : X → Bool) (xs now : List X) (i j : ℕ) (d : X) (next : suc i ≡ j) (lt : i < length xs) (is : now ≡ take j xs ++ filter p (drop j xs)) where
  at_next : now ≡ take (suc i) xs ++ filter p (drop (suc i) xs)
  at_next = is ∙ ap (λ k. take k xs ++ filter p (drop k xs)) (sym next)

  here : get_or now i d ≡ get_or xs i d
  here = ap (λ t. get_or t i d) at_next ∙ read_before xs (filter p (drop (suc i) xs)) i d lt

  pub kept_next : p (get_or now i d) ≡ true → now ≡ take i xs ++ filter p (drop i xs)
  kept_next passes = at_next ∙ keep_step p xs i d lt (ap p (sym here) ∙ passes)

  pub dropped_next : p (get_or now i d) ≡ false → remove now i ≡ take i xs ++ filter p (drop i xs)
  dropped_next fails = ap (λ t. remove t i) at_next ∙ drop_step p xs i d lt (ap p (sym here) ∙ fails)

module _ {K X : Type 0} {R : K → K → Ordering} (o : IsTotalOrder R) where
  put_next : (es : List (K × X)) (i : ℕ) (d : K × X) → IsStrictlySortedBy (by_key R) es → i < length es → put R (get_or es i d).0 (get_or es i d).1 (take i es) ≡ take (suc i) es
  unfolding IsStrictlySortedBy
  put_next [] i d sorted lt = absurd (omega arith)
  put_next (e ∷ es) zero d sorted lt = refl
  put_next (e ∷ es) (suc i) d sorted lt =
      let before : R e.0 (get_or es i d).0 ≡ Less = Less-from_sorted (by_key R) (e ∷ es) 0 (suc i) d sorted (omega arith) lt in
      rw (greater o e.0 (get_or es i d).0 before) (ap (λ t. e ∷ t) (put_next es i d sorted.1 (omega arith)))

  -- the next entry, put behind all before it
  pub copied_next : (es copy : List (K × X)) (i : ℕ) (e : K × X) → IsStrictlySortedBy (by_key R) es → i < length es → copy ≡ take i es → e ≡ get_or es i e → put R e.0 e.1 copy ≡ take (i + 1) es
  copied_next es copy i e sorted lt is read =
      let next : suc i ≡ i + 1 = omega arith in
      ap (put R e.0 e.1) is
      ∙ ap (λ (x : K × X). put R x.0 x.1 (take i es)) read
      ∙ put_next es i e sorted lt
      ∙ ap (λ j. take j es) next

changed_length : {X : Type 0} (f : X → X) (xs : List X) (i : ℕ) → length (map f (take i xs) ++ drop i xs) ≡ length xs
changed_length f xs zero = refl
changed_length f [] (suc i) = refl
changed_length f (x ∷ xs) (suc i) = ap suc (changed_length f xs i)

-- as long as before, items are where they were
pub changed_within : {X : Type 0} (f : X → X) (xs now : List X) (i : ℕ) → i < length xs → now ≡ map f (take i xs) ++ drop i xs → i < length now
changed_within f xs now i lt is = omega (arith, lt, ap length is, changed_length f xs i)
