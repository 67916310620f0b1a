-- What static and dynamic separation of duty ask of a state (ANSI INCITS 359-2004, 5.3 Constrained RBAC).
use Rattle.std.specs.Prelude.{List, Bool, IsTrue, ◌<◌, not, count_by}
use Rattle.std.specs.List.{list_any, list_all, AllByRecursion as Each}
use Rattle.sorted_keys.specs.Keys.{has}
use Rattle.rbac_terms.specs.Name.{Name, name_cmp}
use Rattle.rbac_terms.specs.Separation.{RoleSet, is_well_sized, is_broken_by, is_broken}
use Rattle.rbac_terms.specs.State.{State, Session}
use Rattle.rbac_terms.specs.Authorization.{is_authorized}
use Rattle.rbac_terms.specs.declared.separation.Separation.{Separation}
use Rattle.rbac_terms.specs.declared.separation.Separation.TheVariants.{Static, Dynamic}
use Rattle.rbac_terms.specs.declared.answer.Denial.{Denial}
use Rattle.rbac_terms.specs.declared.answer.Denial.TheVariants.{SsdViolated, DsdViolated}

-- the sets of a kind
abbrev pub sets_of : Separation → State → List (Name × RoleSet)
sets_of Static s = s.static_sets
sets_of Dynamic s = s.dynamic_sets

-- the state with these sets of a kind
abbrev pub with_sets : Separation → List (Name × RoleSet) → State → State
with_sets Static sets s = record s { static_sets = sets }
with_sets Dynamic sets s = record s { dynamic_sets = sets }

-- the user is authorized for as many roles of some static set as its number, inherited ones counted
abbrev pub breaks_static : State → Name → Bool
breaks_static s user = list_any (λ e. is_broken_by (is_authorized s user) e.1) s.static_sets

-- as many roles of some dynamic set as its number are active in the session, inherited ones not counted
abbrev pub breaks_dynamic : State → Session → Bool
breaks_dynamic s session = list_any (λ e. is_broken session.active e.1) s.dynamic_sets

-- some user, or some session, breaks a set of the kind
abbrev pub is_violated : Separation → State → Bool
is_violated Static s = list_any (breaks_static s) s.users
is_violated Dynamic s = list_any (λ e. breaks_dynamic s e.1) s.sessions

-- the denial that names it
abbrev pub violation : Separation → Denial
violation Static = SsdViolated
violation Dynamic = DsdViolated

-- some set of the kind has not 2 ≤ n ≤ |rs|
abbrev pub is_badly_sized : Separation → State → Bool
is_badly_sized kind s = not (list_all (λ e. is_well_sized e.1) (sets_of kind s))

-- static separation: of each set, each user is authorized for fewer roles than its number
abbrev pub KeepsStatic : State → Type 0
KeepsStatic s = Each (λ e. (user : Name) → IsTrue (has name_cmp user s.users) → count_by (is_authorized s user) e.1.roles < e.1.cardinality) s.static_sets

-- dynamic separation: of each set, fewer roles than its number are active in each session
abbrev pub KeepsDynamic : State → Type 0
KeepsDynamic s = Each (λ e. Each (λ x. count_by (λ r. has name_cmp r x.1.active) e.1.roles < e.1.cardinality) s.sessions) s.dynamic_sets
