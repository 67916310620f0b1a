-- The second halves of a key, before and after a change.
use Rattle.std.proofs.Common.{◌≡◌, Bool, true, false, cond, ◌||◌, ◌&&◌, List, [], ◌∷◌, map, refl, sym, ap, ◌∙◌}
use Rattle.std.specs.declared.cmp.Ordering.{Ordering}
use Rattle.std.specs.declared.cmp.Ordering.TheVariants.{Equal}
use Rattle.std.specs.List.{list_any}
use Rattle.std.specs.List.Sorted.{IsStrictlySortedBy}
use Rattle.std.specs.Ordering.{eq_by_cmp, ordering_then}
use Rattle.std.specs.FinMap.{IsAntisymmetric}
use Rattle.std.specs.Cmp.{IsTotalOrder, tied_itself}
use Rattle.sorted_keys.specs.Keys.{has}
use Rattle.sorted_keys.proofs.Order.{IsBelowAll}
use Rattle.sorted_keys.proofs.Members.{same_keys}
use Rattle.sorted_keys.proofs.Ties.{one_key}
use Rattle.hashed_keys.specs.Pairs.{by_pair, beginning, seconds, replaced}
use Rattle.hashed_keys.proofs.PairChanges.{has-seconds, has-replaced, sorted-replaced}

-- whether a second half passes, asked of all pairs and of those of the key
pub any-seconds : {A B : Type 0} (R : A → A → Ordering) (passes : B → Bool) (a : A) (ps : List (A × B)) → list_any passes (seconds R a ps) ≡ list_any (λ p. eq_by_cmp R a p.0 && passes p.1) ps
any-seconds R passes a [] = refl
any-seconds {A} {B} R passes a (p ∷ ps) = go (eq_by_cmp R a p.0) (any-seconds R passes a ps) where
  go : (t : Bool) → list_any passes (seconds R a ps) ≡ list_any (λ (p : A × B). eq_by_cmp R a p.0 && passes p.1) ps
      → list_any passes (map (λ (p : A × B). p.1) (cond t (p ∷ beginning R a ps) (beginning R a ps))) ≡ ((t && passes p.1) || list_any (λ (p : A × B). eq_by_cmp R a p.0 && passes p.1) ps)
  go true rest = ap (λ b. passes p.1 || b) rest
  go false rest = rest

module _ {A B : Type 0} {R : A → A → Ordering} {S : B → B → Ordering} (o : IsTotalOrder R) (u : IsTotalOrder S) (r : IsAntisymmetric R) (s : IsAntisymmetric S) where
  below-seconds : (a : A) (p : A × B) (ps : List (A × B)) → eq_by_cmp R a p.0 ≡ true → IsBelowAll (by_pair R S) p ps → IsBelowAll S p.1 (seconds R a ps)
  below-seconds a p [] t below = tt
  below-seconds a p (x ∷ xs) t below = go (eq_by_cmp R a x.0) refl (below-seconds a p xs t below.1) where
    tied : eq_by_cmp R a x.0 ≡ true → R p.0 x.0 ≡ Equal
    tied v = ap (λ k. R k x.0) (sym (one_key r a p.0 t)) ∙ ap (λ k. R k x.0) (one_key r a x.0 v) ∙ tied_itself o x.0

    go : (v : Bool) → eq_by_cmp R a x.0 ≡ v → IsBelowAll S p.1 (seconds R a xs) → IsBelowAll S p.1 (map (λ (p : A × B). p.1) (cond v (x ∷ beginning R a xs) (beginning R a xs)))
    go true v rest = (ap (λ k. ordering_then k (S p.1 x.1)) (sym (tied v)) ∙ below.0, rest)
    go false v rest = rest

  pub sorted-seconds : (a : A) (ps : List (A × B)) → IsStrictlySortedBy (by_pair R S) ps → IsStrictlySortedBy S (seconds R a ps)
  unfolding IsStrictlySortedBy
  sorted-seconds a [] sorted = tt
  sorted-seconds a (p ∷ ps) sorted = elim (eq_by_cmp R a p.0) as (λ t. eq_by_cmp R a p.0 ≡ t → IsStrictlySortedBy S (map (λ (p : A × B). p.1) (cond t (p ∷ beginning R a ps) (beginning R a ps)))) [
    | true ↦ λ t. (below-seconds a p ps t sorted.0, sorted-seconds a ps sorted.1)
    | false ↦ λ t. sorted-seconds a ps sorted.1
  ] refl

  -- the second halves of a key after those of a key were replaced
  pub seconds-replaced : (q a : A) (bs : List B) (ps : List (A × B)) → IsStrictlySortedBy (by_pair R S) ps → IsStrictlySortedBy S bs → seconds R q (replaced R S a bs ps) ≡ cond (eq_by_cmp R q a) bs (seconds R q ps)
  seconds-replaced q a bs ps sorted set = same_keys s u (seconds R q (replaced R S a bs ps)) (cond (eq_by_cmp R q a) bs (seconds R q ps))
      (sorted-seconds q (replaced R S a bs ps) (sorted-replaced o u r s a bs ps sorted))
      (either (eq_by_cmp R q a))
      (λ b. has-seconds o u r s q b (replaced R S a bs ps) ∙ has-replaced o u r s a bs ps (q, b) ∙ here b (eq_by_cmp R q a))
    where
      either : (t : Bool) → IsStrictlySortedBy S (cond t bs (seconds R q ps))
      either true = set
      either false = sorted-seconds q ps sorted

      here : (b : B) (t : Bool) → cond t (has S b bs) (has (by_pair R S) (q, b) ps) ≡ has S b (cond t bs (seconds R q ps))
      here b true = refl
      here b false = sym (has-seconds o u r s q b ps)
