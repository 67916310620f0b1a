-- The roles of a permission along the steps of a plan.
use Rattle.std.proofs.Common.{ℕ, Bool, ◌&&◌, map, ◌≡◌, ◌≤◌, List, [], ◌∷◌, Option, Some, None, length, sym, ◌∙◌, ⊎_elim}
use Rattle.std.specs.List.{slice_get, list_any, filter}
use Rattle.std.specs.Ordering.{eq_by_cmp}
use Rattle.std.specs.List.Sorted.{IsStrictlySortedBy}
use Rattle.std.proofs.lemmas.Option.{slice_get_cases}
use Rattle.staged.specs.Made.{made_all}
use Rattle.sorted_keys.specs.Keys.{has}
use Rattle.hashed_keys.proofs.PairChanges.{sorted-replaced, has-seconds}
use Rattle.hashed_keys.proofs.PairSeconds.{any-seconds}
use Rattle.rbac_terms.specs.Name.{Name, Permission, Grant, name_cmp, pair_cmp, grant_cmp}
use Rattle.rbac_terms.proofs.NameLemmas.{names_total, names_exact, pairs_total, pairs_exact}
use Rattle.rbac_rolesets.specs.Changes.{made}
use Rattle.rbac_rolesets.specs.Sets.{Sets}
use Rattle.rbac_rolesets.specs.declared.change.Step.{Step}
use Rattle.rbac_rolesets.specs.declared.change.Step.TheVariants.{AddUser, AddRole, Assign, Grant as AllGranted}

-- a step leaves PA in order
grants_stay : (step : Step) (s : Sets) → IsStrictlySortedBy grant_cmp s.granted → IsStrictlySortedBy grant_cmp (made step s).granted
grants_stay (AddUser user) s sorted = sorted
grants_stay (AddRole role) s sorted = sorted
grants_stay (Assign user role) s sorted = sorted
grants_stay (AllGranted permission roles) s sorted = sorted-replaced pairs_total names_total pairs_exact names_exact permission roles s.granted sorted

-- and so do many
pub grants_in_order : (steps : List Step) (s : Sets) → IsStrictlySortedBy grant_cmp s.granted → IsStrictlySortedBy grant_cmp (made_all made steps s).granted
grants_in_order [] s sorted = sorted
grants_in_order (step ∷ steps) s sorted = grants_in_order steps (made step s) (grants_stay step s sorted)

-- what is not there is past the end
pub none_past : {X : Type 0} (xs : List X) (i : ℕ) → slice_get xs i ≡ None → length xs ≤ i
none_past {X} xs i none = ⊎_elim
    (λ w. let other : ◌≡◌ {A = Option X} None (Some w.0) = sym none ∙ w.2 in absurd (let g : ⊥ = cc in g))
    (λ w. w.0)
    (slice_get_cases xs i).1

-- whether a role that the permission is granted to passes
pub any_granted : (passes : Name → Bool) (permission : Permission) (granted : List Grant) → list_any passes (map (λ grant. grant.1) (filter (λ grant. eq_by_cmp pair_cmp permission grant.0) granted)) ≡ list_any (λ grant. eq_by_cmp pair_cmp permission grant.0 && passes grant.1) granted
any_granted = any-seconds pair_cmp

-- whether a role is one of those that the permission is granted to
pub has_granted : (permission : Permission) (role : Name) (granted : List Grant) → has name_cmp role (map (λ grant. grant.1) (filter (λ grant. eq_by_cmp pair_cmp permission grant.0) granted)) ≡ has grant_cmp (permission, role) granted
has_granted = has-seconds pairs_total names_total pairs_exact names_exact
