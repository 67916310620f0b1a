-- What holds of each policy, whatever commands it was given.
use Rattle.std.specs.Prelude.{◌≡◌, ◌≤◌, ⊤, true, false, List, length, IsTrue}
use Rattle.std.specs.List.{AllByRecursion as Each}
use Rattle.std.specs.List.Sorted.{IsStrictlySortedBy}
use Rattle.sorted_keys.specs.Keys.{has, by_key}
use Rattle.rbac_terms.specs.Name.{Name, Permission, name_cmp, pair_cmp, grant_cmp}
use Rattle.rbac_terms.specs.Limits.{most_users, most_roles, most_sessions, most_sets, most_operations, most_objects, most_permissions}
use Rattle.rbac_terms.specs.Vocabulary.{IsVocabulary, is_limited}
use Rattle.rbac_terms.specs.Separation.{RoleSet, is_well_sized}
use Rattle.rbac_terms.specs.State.{State, Session}
use Rattle.rbac_terms.specs.Authorization.{InheritsIn, IsAuthorized}
use Rattle.rbac_terms.specs.Constraints.{is_violated}
use Rattle.rbac_terms.specs.declared.separation.Separation.TheVariants.{Static, Dynamic}
use Rattle.rbac_terms.specs.declared.command.Command.{Command}
use Rattle.rbac_terms.specs.declared.command.Command.TheVariants.{CreateSet, CreateSession}

-- each set that commands change is a sorted list without repeats
pub record IsInOrder (s : State) : Type 0 where
  pub users : IsStrictlySortedBy name_cmp s.users
  pub roles : IsStrictlySortedBy name_cmp s.roles
  pub assigned : IsStrictlySortedBy pair_cmp s.assigned
  pub granted : IsStrictlySortedBy grant_cmp s.granted
  pub declared : IsStrictlySortedBy pair_cmp s.declared
  pub sessions : IsStrictlySortedBy (by_key name_cmp) s.sessions

-- assignments, grants and declared pairs are between what exists
pub record HasReferences (s : State) : Type 0 where
  pub assigned : (user role : Name) → IsTrue (has pair_cmp (user, role) s.assigned) → IsTrue (has name_cmp user s.users) × IsTrue (has name_cmp role s.roles)
  pub granted : (permission : Permission) (role : Name) → IsTrue (has grant_cmp (permission, role) s.granted) → IsTrue (has pair_cmp permission s.vocabulary.permissions) × IsTrue (has name_cmp role s.roles)
  pub declared : (ascendant descendant : Name) → IsTrue (has pair_cmp (ascendant, descendant) s.declared) → IsTrue (has name_cmp ascendant s.roles) × IsTrue (has name_cmp descendant s.roles)

-- nothing is more than its limit
pub record IsWithinLimits (s : State) : Type 0 where
  pub users : length s.users ≤ most_users
  pub roles : length s.roles ≤ most_roles
  pub sessions : length s.sessions ≤ most_sessions
  pub operations : length s.vocabulary.operations ≤ most_operations
  pub objects : length s.vocabulary.objects ≤ most_objects
  pub permissions : length s.vocabulary.permissions ≤ most_permissions

-- the hierarchy has no cycle: no descendant inherits its ascendant
abbrev pub HasNoCycle : State → Type 0
HasNoCycle s = (ascendant descendant : Name) → IsTrue (has pair_cmp (ascendant, descendant) s.declared) → ¬ (InheritsIn s descendant ascendant)

-- the declared pairs keep to the kind of the hierarchy: where it is limited, no role is the ascendant of two (ANSI INCITS
-- 359-2004, 5.2: Limited Role Hierarchies)
abbrev pub KeepsKind : State → Type 0
KeepsKind s = is_limited s.vocabulary.hierarchy ≡ true → (ascendant descendant other : Name) → IsTrue (has pair_cmp (ascendant, descendant) s.declared) → IsTrue (has pair_cmp (ascendant, other) s.declared) → descendant ≡ other

-- a session's owner exists, its active roles are a set, and the owner is authorized for each of them
pub record IsSessionSound (s : State) (session : Session) : Type 0 where
  pub owned : IsTrue (has name_cmp session.owner s.users)
  pub active : IsStrictlySortedBy name_cmp session.active
  pub authorized : (role : Name) → IsTrue (has name_cmp role session.active) → IsAuthorized s session.owner role

-- the roles of a set are a set, they exist, and 2 ≤ n ≤ |rs|
pub record IsRoleSet (roles : List Name) (set : RoleSet) : Type 0 where
  pub in_order : IsStrictlySortedBy name_cmp set.roles
  pub exist : (role : Name) → IsTrue (has name_cmp role set.roles) → IsTrue (has name_cmp role roles)
  pub sized : IsTrue (is_well_sized set)

-- the sets of a kind are sorted by name and within their limit, and each is as it should be
pub record AreRoleSets (roles : List Name) (sets : List (Name × RoleSet)) : Type 0 where
  pub in_order : IsStrictlySortedBy (by_key name_cmp) sets
  pub few : length sets ≤ most_sets
  pub each : Each (λ e. IsRoleSet roles e.1) sets

-- static and dynamic separation of duty hold
pub record IsSeparated (s : State) : Type 0 where
  pub static_sets : AreRoleSets s.roles s.static_sets
  pub dynamic_sets : AreRoleSets s.roles s.dynamic_sets
  pub static : is_violated Static s ≡ false
  pub dynamic : is_violated Dynamic s ≡ false

pub record IsSound (s : State) : Type 0 where
  pub vocabulary : IsVocabulary s.vocabulary
  pub in_order : IsInOrder s
  pub references : HasReferences s
  pub limits : IsWithinLimits s
  pub no_cycle : HasNoCycle s
  pub kind : KeepsKind s
  pub separation : IsSeparated s
  pub sessions : Each (λ e. IsSessionSound s e.1) s.sessions

-- the roles that a command brings are a set: sorted and without repeats
abbrev pub BringsASet : Command → Type 0
BringsASet (CreateSet kind set roles n) = IsStrictlySortedBy name_cmp roles
BringsASet (CreateSession user session roles) = IsStrictlySortedBy name_cmp roles
BringsASet c = ⊤
