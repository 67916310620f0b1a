-- What holds of each element of a list, of filters, and of tests that agree.
use Rattle.std.proofs.Common.{Bool, true, false, cond, ◌≡◌, refl, sym, ap, ◌∙◌, true≢false, List, [], ◌∷◌, ◌++◌, map}
use Rattle.std.specs.Prelude.{count_by}
use Rattle.std.specs.List.{AllByRecursion as Each, filter, list_any, list_all}

module _ {X : Type 0} where
  pub Each-append : (P : X → Type 0) (xs ys : List X) → Each P xs → Each P ys → Each P (xs ++ ys)
  Each-append P [] ys a b = b
  Each-append P (x ∷ xs) ys a b = (a.0, Each-append P xs ys a.1 b)

  pub Each-left : (P : X → Type 0) (xs ys : List X) → Each P (xs ++ ys) → Each P xs
  Each-left P [] ys a = tt
  Each-left P (x ∷ xs) ys a = (a.0, Each-left P xs ys a.1)

  pub Each-right : (P : X → Type 0) (xs ys : List X) → Each P (xs ++ ys) → Each P ys
  Each-right P [] ys a = a
  Each-right P (x ∷ xs) ys a = Each-right P xs ys a.1

  pub Each-weaker : (P Q : X → Type 0) (xs : List X) → ((x : X) → P x → Q x) → Each P xs → Each Q xs
  Each-weaker P Q [] f a = tt
  Each-weaker P Q (x ∷ xs) f a = (f x a.0, Each-weaker P Q xs f a.1)

  pub filter-all : (p : X → Bool) (xs : List X) → Each (λ x. p x ≡ true) xs → filter p xs ≡ xs
  filter-all p [] a = refl
  filter-all p (x ∷ xs) a = rw a.0 (ap (λ l. x ∷ l) (filter-all p xs a.1))

  pub filter-none : (p : X → Bool) (xs : List X) → Each (λ x. p x ≡ false) xs → filter p xs ≡ []
  filter-none p [] a = refl
  filter-none p (x ∷ xs) a = rw a.0 (filter-none p xs a.1)

  pub Each-both : (P Q : X → Type 0) (xs : List X) → Each P xs → Each Q xs → Each (λ x. P x × Q x) xs
  Each-both P Q [] a b = tt
  Each-both P Q (x ∷ xs) a b = ((a.0, b.0), Each-both P Q xs a.1 b.1)

  pub Each-always : (P : X → Type 0) (xs : List X) → ((x : X) → P x) → Each P xs
  Each-always P [] f = tt
  Each-always P (x ∷ xs) f = (f x, Each-always P xs f)

  pub Each-filter : (P : X → Type 0) (p : X → Bool) (xs : List X) → Each P xs → Each P (filter p xs)
  Each-filter P p [] a = tt
  Each-filter P p (x ∷ xs) a = elim (p x) as (λ b. Each P (cond b (x ∷ filter p xs) (filter p xs))) [ true ↦ (a.0, Each-filter P p xs a.1) | false ↦ Each-filter P p xs a.1 ]

  -- what holds of each that passes holds, where it passes, of each
  pub Each-from_filter : (P : X → Type 0) (p : X → Bool) (xs : List X) → Each P (filter p xs) → Each (λ x. p x ≡ true → P x) xs
  Each-from_filter P p [] a = tt
  Each-from_filter P p (x ∷ xs) a = go (p x) refl a (Each-from_filter P p xs)
    where
      go : (b : Bool) → p x ≡ b → Each P (cond b (x ∷ filter p xs) (filter p xs)) → (Each P (filter p xs) → Each (λ x. p x ≡ true → P x) xs) → Each (λ x. p x ≡ true → P x) (x ∷ xs)
      go true e h on = (λ _. h.0, on h.1)
      go false e h on = (λ t. absurd (true≢false (sym t ∙ e)), on h)

  pub filter-yes : (p : X → Bool) (x : X) (xs : List X) → p x ≡ true → filter p (x ∷ xs) ≡ x ∷ filter p xs
  filter-yes p x xs e = rw e refl

  pub filter-no : (p : X → Bool) (x : X) (xs : List X) → p x ≡ false → filter p (x ∷ xs) ≡ filter p xs
  filter-no p x xs e = rw e refl

  pub filter-filter : (p q : X → Bool) (xs : List X) → filter p (filter q xs) ≡ filter q (filter p xs)
  filter-filter p q [] = refl
  filter-filter p q (x ∷ xs) = go (p x) refl (q x) refl (filter-filter p q xs)
    where
      go : (a : Bool) → p x ≡ a → (b : Bool) → q x ≡ b → filter p (filter q xs) ≡ filter q (filter p xs)
          → filter p (cond b (x ∷ filter q xs) (filter q xs)) ≡ filter q (cond a (x ∷ filter p xs) (filter p xs))
      go true e true f on = filter-yes p x (filter q xs) e ∙ ap (λ l. x ∷ l) on ∙ sym (filter-yes q x (filter p xs) f)
      go true e false f on = on ∙ sym (filter-no q x (filter p xs) f)
      go false e true f on = filter-no p x (filter q xs) e ∙ on
      go false e false f on = on

  pub cons_head : (x y : X) (xs ys : List X) → x ∷ xs ≡ y ∷ ys → x ≡ y
  cons_head x y xs ys e = cc

  pub cons_tail : (x y : X) (xs ys : List X) → x ∷ xs ≡ y ∷ ys → xs ≡ ys
  cons_tail x y xs ys e = cc

pub map-push : {X Y : Type 0} (f : X → Y) (xs : List X) (x : X) → map f (xs ++ x ∷ []) ≡ map f xs ++ f x ∷ []
map-push f [] x = refl
map-push f (y ∷ xs) x = ap (λ l. f y ∷ l) (map-push f xs x)

-- tests that agree at each element are one test
module _ {X : Type 0} (p q : X → Bool) (same : (x : X) → p x ≡ q x) (xs : List X) where
  pub any-same : list_any p xs ≡ list_any q xs
  any-same = ap (λ t. list_any t xs) (λ i x. same x i)

  pub all-same : list_all p xs ≡ list_all q xs
  all-same = ap (λ t. list_all t xs) (λ i x. same x i)

  pub filter-same : filter p xs ≡ filter q xs
  filter-same = ap (λ t. filter t xs) (λ i x. same x i)

  pub count-same : count_by p xs ≡ count_by q xs
  count-same = ap (λ t. count_by t xs) (λ i x. same x i)
