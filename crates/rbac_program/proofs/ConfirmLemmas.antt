-- Confirming one pass after the other.
use Rattle.std.proofs.Common.{ℕ, ◌≡◌, ◌<◌, ◌≤◌, ◌+◌, List, Some, slice_get, slice_index_or, slice_set, ap, ◌∙◌, subst, ⊎_elim, arith}
use Rattle.std.proofs.lemmas.Bool.{cases_lt}
use Rattle.std.proofs.lemmas.List.{set-get_or}
use Rattle.std.proofs.lemmas.Option.{get_or_from_slice_get}
use Rattle.rbac_node.specs.Node.{NodeState}
use Rattle.rbac_node.specs.Pass.{PassState}
use Rattle.rbac_program.specs.Serving.{IsConfirmed}

module _ (nodes : List NodeState) (passes : List PassState) (place : ℕ) (q : PassState) (is : q ≡ slice_index_or passes place q) where
  pub one_more : ((i : ℕ) → i < place → (p : PassState) → slice_get passes i ≡ Some p → IsConfirmed nodes p) → IsConfirmed nodes q
      → (i : ℕ) → i < place + 1 → (p : PassState) → slice_get passes i ≡ Some p → IsConfirmed nodes p
  one_more before this i lt p found = ⊎_elim
      (λ (below : i < place). before i below p found)
      (λ (le : place ≤ i).
      let here : i ≡ place = omega arith in
      let same : q ≡ p = is ∙ get_or_from_slice_get passes place p q (subst (λ n. slice_get passes n ≡ Some p) here found) in
      subst (IsConfirmed nodes) same this)
      (cases_lt i place)

  -- what is put back as it was changes nothing
  pub put_back : (new : PassState) → new ≡ q → slice_set passes place new ≡ passes
  put_back new same = ap (slice_set passes place) (same ∙ is) ∙ set-get_or passes place q
