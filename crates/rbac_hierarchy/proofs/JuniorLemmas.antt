-- Juniors over pairs that range over the roles.
use Rattle.std.proofs.Common.{◌≡◌, Bool, true, false, ◌&&◌, ◌↔◌, List, [], ◌∷◌, IsTrue, sym, ◌∙◌, subst, ⊎_elim}
use Rattle.std.specs.List.Sorted.{IsStrictlySortedBy}
use Rattle.std.specs.Ordering.{eq_by_cmp}
use Rattle.std.proofs.lemmas.Bool.{and_parts, and_from, or_cases, or_left, true≢false, false_from_ne_true}
use Rattle.std.proofs.lemmas.List.Kept.{IsStrictlySortedBy-filter}
use Rattle.sorted_keys.specs.Keys.{has, with_key}
use Rattle.sorted_keys.proofs.Order.{sorted_none}
use Rattle.sorted_keys.proofs.KeyPlace.{sorted_with_key}
use Rattle.sorted_keys.proofs.Members.{has-filter, has-with_key, same_keys}
use Rattle.rbac_terms.specs.Name.{Name, name_cmp}
use Rattle.rbac_terms.specs.Inheritance.{IsChain, Inherits, inherits, juniors}
use Rattle.rbac_rules.proofs.InheritanceLemmas.{inherits_iff}
use Rattle.sorted_keys.proofs.Ties.{one_key, ties_itself, same_bits}
use Rattle.rbac_terms.proofs.NameLemmas.{names_total, names_exact}
use Rattle.rbac_hierarchy.specs.Rows.{RangesOver}
use Rattle.rbac_hierarchy.proofs.Kept.{keeps_none}

pub between_roles : (roles : List Name) (declared : List (Name × Name)) (r q : Name) → inherits roles declared r q ≡ true → (has name_cmp r roles ≡ true) × (has name_cmp q roles ≡ true)
unfolding inherits
between_roles roles declared r q e = and_parts _ _ (and_parts _ _ e).0

pub none_inherited : (roles : List Name) (declared : List (Name × Name)) (r q : Name) → has name_cmp r roles ≡ false → inherits roles declared r q ≡ false
none_inherited roles declared r q none = false_from_ne_true _ (λ e. true≢false (sym (between_roles roles declared r q e).0 ∙ none))

pub no_juniors : (roles : List Name) (declared : List (Name × Name)) (r : Name) → has name_cmp r roles ≡ false → juniors roles declared r ≡ []
no_juniors roles declared r none = keeps_none (λ q. inherits roles declared r q) roles (λ q. none_inherited roles declared r q none)

pub has_juniors : (roles : List Name) (declared : List (Name × Name)) (r q : Name) → has name_cmp q (juniors roles declared r) ≡ inherits roles declared r q
has_juniors roles declared r q = has-filter names_exact (λ q. inherits roles declared r q) roles q ∙ same_bits _ _ (λ both. (and_parts _ _ both).0) (λ e. and_from _ _ e (between_roles roles declared r q e).1)

-- what gives the test's answer tells inheritance
pub told : (roles : List Name) (declared : List (Name × Name)) (r q : Name) (answer : Bool) → answer ≡ inherits roles declared r q → IsTrue answer ↔ Inherits roles declared r q
told roles declared r q answer e = (λ t. (inherits_iff roles declared r q).0 (sym e ∙ t), λ i. e ∙ (inherits_iff roles declared r q).1 i)

-- names in order that are inherited, and all that are, are the juniors
pub juniors_are : (roles : List Name) (declared : List (Name × Name)) (r : Name) (names : List Name) → IsStrictlySortedBy name_cmp roles → IsStrictlySortedBy name_cmp names
    → ((q : Name) → has name_cmp q names ≡ true → Inherits roles declared r q) → ((q : Name) → Inherits roles declared r q → has name_cmp q names ≡ true) → names ≡ juniors roles declared r
juniors_are roles declared r names in_order sorted sound complete = same_keys names_exact names_total names (juniors roles declared r) sorted (IsStrictlySortedBy-filter _ _ _ in_order)
    (λ q. same_bits _ _ (λ m. (inherits_iff roles declared r q).1 (sound q m)) (λ e. complete q ((inherits_iff roles declared r q).0 e)) ∙ sym (has_juniors roles declared r q))

module _ (roles more : List Name) (declared : List (Name × Name)) (ranges : RangesOver roles declared) where
  chain_within : (r : Name) (rest : List Name) (q : Name) → has name_cmp r roles ≡ true → IsChain more declared r rest q → IsChain roles declared r rest q
  chain_within r [] q is_r c = (is_r, c.1)
  chain_within r (p ∷ rest) q is_r c = (is_r, c.1, chain_within p rest q (ranges r p c.1).1 c.2)

  chain_among : ((q : Name) → has name_cmp q roles ≡ true → has name_cmp q more ≡ true) → (r : Name) (rest : List Name) (q : Name) → IsChain roles declared r rest q → IsChain more declared r rest q
  chain_among wider r [] q c = (wider r c.0, c.1)
  chain_among wider r (p ∷ rest) q c = (wider r c.0, c.1, chain_among wider p rest q c.2)

  -- among more roles a role has the same juniors
  pub same_juniors : IsStrictlySortedBy name_cmp roles → IsStrictlySortedBy name_cmp more → ((q : Name) → has name_cmp q roles ≡ true → has name_cmp q more ≡ true)
      → (r : Name) → has name_cmp r roles ≡ true → juniors roles declared r ≡ juniors more declared r
  same_juniors sorted in_order wider r is_r = juniors_are more declared r (juniors roles declared r) in_order (IsStrictlySortedBy-filter _ _ _ sorted)
      (λ q m. let i = (inherits_iff roles declared r q).0 (sym (has_juniors roles declared r q) ∙ m) in (i.0, chain_among wider r i.0 q i.1))
      (λ q i. has_juniors roles declared r q ∙ (inherits_iff roles declared r q).1 (i.0, chain_within r i.0 q is_r i.1))

-- a role that is in no pair has itself alone
module _ (roles : List Name) (declared : List (Name × Name)) (ranges : RangesOver roles declared) (role : Name) (absent : has name_cmp role roles ≡ false) where
  alone : (q : Name) (rest : List Name) → IsChain (with_key name_cmp role roles) declared role rest q → role ≡ q
  alone q [] c = c.1
  alone q (p ∷ rest) c = absurd (true≢false (sym (ranges role p c.1).0 ∙ absent))

  pub lone_juniors : IsStrictlySortedBy name_cmp roles → role ∷ [] ≡ juniors (with_key name_cmp role roles) declared role
  lone_juniors sorted =
      let is_role = has-with_key names_total role roles role ∙ or_left _ _ (ties_itself names_total role) in
      juniors_are (with_key name_cmp role roles) declared role (role ∷ []) (sorted_with_key names_total role roles sorted) (sorted_with_key names_total role [] (sorted_none name_cmp))
      (λ q m. ⊎_elim (λ e. ([], (is_role, sym (one_key names_exact q role e)))) (λ none. absurd (true≢false (sym none))) (or_cases _ _ m))
      (λ q i. or_left _ _ (subst (λ x. eq_by_cmp name_cmp q x ≡ true) (sym (alone q i.0 i.1)) (ties_itself names_total q)))

-- what is inherited is a role
pub inherited_roles : (roles : List Name) (declared : List (Name × Name)) (r q : Name) → (inherits roles declared r q && has name_cmp q roles) ≡ inherits roles declared r q
inherited_roles roles declared r q = same_bits _ _ (λ both. (and_parts _ _ both).0) (λ e. and_from _ _ e (between_roles roles declared r q e).1)
