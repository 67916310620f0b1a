-- Keys that tie are one key; what passes a test, as a member and as an element.
use Rattle.std.proofs.Common.{List, [], ◌∷◌, ◌≡◌, Bool, true, false, ◌&&◌, refl, sym, ap, subst, ⊎_elim}
use Rattle.std.specs.declared.cmp.Ordering.{Ordering}
use Rattle.std.specs.declared.cmp.Ordering.TheVariants.{Less, Equal, Greater}
use Rattle.std.specs.List.{list_any, list_all}
use Rattle.std.specs.Ordering.{eq_by_cmp, is_eq, then_cmp, on, ordering_then}
use Rattle.std.specs.Cmp.{IsTotalOrder, Equal-is, tied_itself}
use Rattle.std.proofs.lemmas.Bool.{or_cases, and_parts, and_from, or_left, or_right, false≢true}
use Rattle.std.specs.FinMap.{IsAntisymmetric}
use Rattle.sorted_keys.specs.Keys.{has}

-- keys that tie are one key, and each key ties with itself
pub one_key : {K : Type 0} {R : K → K → Ordering} → IsAntisymmetric R → (x y : K) → eq_by_cmp R x y ≡ true → x ≡ y
one_key {R = R} exact x y t = exact x y ((Equal-is (R x y)).0 t)

pub ties_itself : {K : Type 0} {R : K → K → Ordering} → IsTotalOrder R → (x : K) → eq_by_cmp R x x ≡ true
ties_itself o x = ap is_eq (tied_itself o x)

-- tests that pass together are one
pub same_bits : (a b : Bool) → (a ≡ true → b ≡ true) → (b ≡ true → a ≡ true) → a ≡ b
same_bits true b there back = sym (there refl)
same_bits false true there back = back refl
same_bits false false there back = refl

-- two keys tie either way round
pub ties_flip : {K : Type 0} {R : K → K → Ordering} → IsTotalOrder R → IsAntisymmetric R → (x y : K) → eq_by_cmp R x y ≡ eq_by_cmp R y x
ties_flip {R = R} o exact x y =
    same_bits _ _ (λ t. subst (λ z. eq_by_cmp R y z ≡ true) (sym (one_key exact x y t)) (ties_itself o y)) (λ t. subst (λ z. eq_by_cmp R x z ≡ true) (sym (one_key exact y x t)) (ties_itself o x))

-- pairs tie where both halves do
pub ties-pair : {A B : Type 0} (R : A → A → Ordering) (S : B → B → Ordering) (x y : A × B) → eq_by_cmp (then_cmp (on (λ p. p.0) R) (on (λ p. p.1) S)) x y ≡ (eq_by_cmp R x.0 y.0 && eq_by_cmp S x.1 y.1)
ties-pair R S x y = elim (R x.0 y.0) as (λ r. is_eq (ordering_then r (S x.1 y.1)) ≡ (is_eq r && is_eq (S x.1 y.1))) [ Less ↦ refl | Equal ↦ refl | Greater ↦ refl ]

module _ {K : Type 0} {R : K → K → Ordering} (o : IsTotalOrder R) (exact : IsAntisymmetric R) where
  -- where some element passes, a member passes
  pub any_member : (p : K → Bool) (xs : List K) → list_any p xs ≡ true → (x : K) × (has R x xs ≡ true) × (p x ≡ true)
  any_member p [] e = absurd (false≢true e)
  any_member p (x ∷ xs) e = ⊎_elim
      (λ t. (x, or_left _ _ (ties_itself o x), t))
      (λ t. let rest = any_member p xs t in (rest.0, or_right _ _ rest.1, rest.2))
      (or_cases _ _ e)

  -- where a member passes, some element passes
  pub member_any : (p : K → Bool) (xs : List K) (k : K) → has R k xs ≡ true → p k ≡ true → list_any p xs ≡ true
  member_any p [] k m t = absurd (false≢true m)
  member_any p (x ∷ xs) k m t = ⊎_elim
      (λ e. or_left _ _ (subst (λ z. p z ≡ true) (one_key exact k x e) t))
      (λ e. or_right _ _ (member_any p xs k e t))
      (or_cases _ _ m)

  -- where all elements pass, each member passes
  pub all_member : (p : K → Bool) (xs : List K) (k : K) → list_all p xs ≡ true → has R k xs ≡ true → p k ≡ true
  all_member p [] k e m = absurd (false≢true m)
  all_member p (x ∷ xs) k e m = let both = and_parts _ _ e in ⊎_elim
      (λ t. subst (λ z. p z ≡ true) (sym (one_key exact k x t)) both.0)
      (λ t. all_member p xs k both.1 t)
      (or_cases _ _ m)

  -- where each member passes, all elements pass
  pub member_all : (p : K → Bool) (xs : List K) → ((k : K) → has R k xs ≡ true → p k ≡ true) → list_all p xs ≡ true
  member_all p [] each = refl
  member_all p (x ∷ xs) each = and_from _ _ (each x (or_left _ _ (ties_itself o x))) (member_all p xs (λ k m. each k (or_right _ _ m)))
