-- Entries whose values are a function of their keys, and the keys of entries.
use Rattle.std.proofs.Common.{◌≡◌, Bool, true, false, not, ◌||◌, cond, List, [], ◌∷◌, map, Some, None, is_some, refl, sym, ap, ◌∙◌}
use Rattle.std.specs.declared.cmp.Ordering.{Ordering}
use Rattle.std.specs.declared.cmp.Ordering.TheVariants.{Less, Equal, Greater}
use Rattle.std.specs.List.{filter}
use Rattle.std.specs.List.Sorted.{IsStrictlySortedBy}
use Rattle.std.specs.Ordering.{eq_by_cmp}
use Rattle.std.specs.FinMap.{IsAntisymmetric}
use Rattle.std.specs.FinMap.Entries.{by_order, find, put}
use Rattle.std.specs.Cmp.{IsTotalOrder}
use Rattle.std.proofs.lemmas.Bool.{or_right}
use Rattle.sorted_keys.specs.Keys.{has, with_key, without, without_key, by_key}
use Rattle.sorted_keys.proofs.Order.{IsBelowAll}
use Rattle.sorted_keys.proofs.KeyPlace.{sorted_with_key}
use Rattle.sorted_keys.proofs.Members.{has-with_key, same_keys}
use Rattle.sorted_keys.proofs.Ties.{one_key, ties_itself}

-- entries whose values are a function of their keys
module _ {K X : Type 0} (g : K → X) where
  abbrev pub each : List K → List (K × X)
  each ks = map (λ k. (k, g k)) ks

  pub keys_of_each : (ks : List K) → map (λ e. e.0) (each ks) ≡ ks
  keys_of_each [] = refl
  keys_of_each (k ∷ ks) = ap (λ t. k ∷ t) (keys_of_each ks)

  pub keys_of_kept : (p : K × X → Bool) (ks : List K) → map (λ e. e.0) (filter p (each ks)) ≡ filter (λ k. p (k, g k)) ks
  keys_of_kept p [] = refl
  keys_of_kept p (k ∷ ks) = elim (p (k, g k)) as (λ b. map (λ e. e.0) (cond b ((k, g k) ∷ filter p (each ks)) (filter p (each ks))) ≡ cond b (k ∷ filter (λ k. p (k, g k)) ks) (filter (λ k. p (k, g k)) ks)) [
    | true ↦ ap (λ t. k ∷ t) (keys_of_kept p ks)
    | false ↦ keys_of_kept p ks
  ]

  module _ {R : K → K → Ordering} (exact : IsAntisymmetric R) where
    pub each_put : (k : K) (ks : List K) → put R k (g k) (each ks) ≡ each (with_key R k ks)
    each_put k [] = refl
    each_put k (x ∷ xs) = elim (R k x) as (λ r. R k x ≡ r → by_order r ((k, g k) ∷ (x, g x) ∷ each xs) ((x, g k) ∷ each xs) ((x, g x) ∷ put R k (g k) (each xs)) ≡ each (by_order r (k ∷ x ∷ xs) (x ∷ xs) (x ∷ with_key R k xs))) [
      | Less ↦ λ e. refl
      | Equal ↦ λ e. ap (λ z. (x, g z) ∷ each xs) (exact k x e)
      | Greater ↦ λ e. ap (λ t. (x, g x) ∷ t) (each_put k xs)
    ] refl

    pub each_found : (k : K) (ks : List K) → find R k (each ks) ≡ cond (has R k ks) (Some (g k)) None
    each_found k [] = refl
    each_found k (x ∷ xs) = elim (eq_by_cmp R k x) as (λ b. eq_by_cmp R k x ≡ b → cond b (Some (g x)) (find R k (each xs)) ≡ cond (b || has R k xs) (Some (g k)) None) [
      | true ↦ λ e. ap (λ z. Some (g z)) (sym (one_key exact k x e))
      | false ↦ λ e. each_found k xs
    ] refl

  pub each_without : (R : K → K → Ordering) (k : K) (ks : List K) → without_key R k (each ks) ≡ each (without R k ks)
  each_without R k [] = refl
  each_without R k (x ∷ xs) = elim (eq_by_cmp R k x) as (λ b. cond (not b) ((x, g x) ∷ without_key R k (each xs)) (without_key R k (each xs)) ≡ each (cond (not b) (x ∷ without R k xs) (without R k xs))) [
    | true ↦ each_without R k xs
    | false ↦ ap (λ t. (x, g x) ∷ t) (each_without R k xs)
  ]

pub each_same : {K X : Type 0} {R : K → K → Ordering} (o : IsTotalOrder R) (g h : K → X) (ks : List K) → ((k : K) → has R k ks ≡ true → g k ≡ h k) → each g ks ≡ each h ks
each_same o g h [] same = refl
each_same {R = R} o g h (x ∷ xs) same =
    let first = same x (ap (λ b. b || has R x xs) (ties_itself o x)) in
    let rest = each_same o g h xs (λ k m. same k (or_right _ _ m)) in
    λ i. (x, first i) ∷ rest i

module _ {K X : Type 0} (R : K → K → Ordering) where
  -- an entry is found where its key is one of the keys
  pub found_among : (k : K) (es : List (K × X)) → is_some (find R k es) ≡ has R k (map (λ e. e.0) es)
  found_among k [] = refl
  found_among k (e ∷ es) = elim (eq_by_cmp R k e.0) as (λ b. is_some (cond b (Some e.1) (find R k es)) ≡ (b || has R k (map (λ e. e.0) es))) [
    | true ↦ refl
    | false ↦ found_among k es
  ]

  below_keys : (x : K × X) (es : List (K × X)) → IsBelowAll (by_key R) x es → IsBelowAll R x.0 (map (λ e. e.0) es)
  below_keys x [] below = tt
  below_keys x (e ∷ es) below = (below.0, below_keys x es below.1)

  pub sorted_keys : (es : List (K × X)) → IsStrictlySortedBy (by_key R) es → IsStrictlySortedBy R (map (λ e. e.0) es)
  unfolding IsStrictlySortedBy
  sorted_keys [] sorted = tt
  sorted_keys (e ∷ es) sorted = (below_keys e es sorted.0, sorted_keys es sorted.1)

-- what is added where it is changes nothing
pub with_key_there : {K : Type 0} {R : K → K → Ordering} → IsTotalOrder R → IsAntisymmetric R → (k : K) (ks : List K) → IsStrictlySortedBy R ks → has R k ks ≡ true → with_key R k ks ≡ ks
with_key_there {R = R} o exact k ks sorted there = same_keys exact o _ _ (sorted_with_key o k ks sorted) sorted
    (λ q. has-with_key o k ks q ∙ elim (eq_by_cmp R q k) as (λ b. eq_by_cmp R q k ≡ b → (b || has R q ks) ≡ has R q ks) [
      | true ↦ λ e. sym (ap (λ z. has R z ks) (one_key exact q k e) ∙ there)
      | false ↦ λ e. refl
    ] refl)
