-- The one at a place among those of a list that pass.
use Rattle.std.proofs.Common.{ℕ, zero, suc, ◌≡◌, ◌≢◌, ◌+◌, ◌-◌, ◌<◌, Bool, true, false, cond, List, ◌∷◌, drop, length, get_or, drop-cons, add-one, Option, Some, refl, sym, ap, ◌∙◌, subst, arith}
use Rattle.std.specs.List.{filter, slice_get}

module _ {X : Type 0} (p : X → Bool) where
  split : (xs : List X) (i : ℕ) (x : X) → i < length xs → x ≡ get_or xs i x → drop i xs ≡ x ∷ drop (i + 1) xs
  split xs i x within is = drop-cons xs i x within ∙ ap (λ z. z ∷ drop (suc i) xs) (sym is) ∙ ap (λ n. x ∷ drop n xs) (sym (add-one i))

  -- one that does not pass is not counted
  pub passed_over : (xs : List X) (i before : ℕ) (x : X) (r : Option X) → i < length xs → x ≡ get_or xs i x → p x ≡ false → slice_get (filter p (drop i xs)) before ≡ r → slice_get (filter p (drop (i + 1) xs)) before ≡ r
  passed_over xs i before x r within is fails h =
      sym (ap (λ b. slice_get (cond b (x ∷ filter p (drop (i + 1) xs)) (filter p (drop (i + 1) xs))) before) fails) ∙ sym (ap (λ l. slice_get (filter p l) before) (split xs i x within is)) ∙ h

  with_one : (xs : List X) (i before : ℕ) (x : X) (r : Option X) → i < length xs → x ≡ get_or xs i x → p x ≡ true → slice_get (filter p (drop i xs)) before ≡ r → slice_get (x ∷ filter p (drop (i + 1) xs)) before ≡ r
  with_one xs i before x r within is passes h =
      sym (ap (λ b. slice_get (cond b (x ∷ filter p (drop (i + 1) xs)) (filter p (drop (i + 1) xs))) before) passes) ∙ sym (ap (λ l. slice_get (filter p l) before) (split xs i x within is)) ∙ h

  -- one that passes is it, or counts
  pub is_it : (xs : List X) (i before : ℕ) (x : X) (r : Option X) → i < length xs → x ≡ get_or xs i x → p x ≡ true → before ≡ 0 → slice_get (filter p (drop i xs)) before ≡ r → Some x ≡ r
  is_it xs i before x r within is passes none h = sym (ap (λ n. slice_get (x ∷ filter p (drop (i + 1) xs)) n) none) ∙ with_one xs i before x r within is passes h

  pub counts : (xs : List X) (i before : ℕ) (x : X) (r : Option X) → i < length xs → x ≡ get_or xs i x → p x ≡ true → before ≢ 0 → slice_get (filter p (drop i xs)) before ≡ r → slice_get (filter p (drop (i + 1) xs)) (before - 1) ≡ r
  counts xs i before x r within is passes some h = one_less before some (with_one xs i before x r within is passes h)
    where
      one_less : (n : ℕ) → n ≢ 0 → slice_get (x ∷ filter p (drop (i + 1) xs)) n ≡ r → slice_get (filter p (drop (i + 1) xs)) (n - 1) ≡ r
      one_less zero some h = absurd (some refl)
      one_less (suc n) some h = subst (λ k. slice_get (filter p (drop (i + 1) xs)) k ≡ r) (let e : n ≡ suc n - 1 = omega arith in e) h
