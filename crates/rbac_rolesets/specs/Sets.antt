-- What the sets of users and roles are seen as.
use Rattle.std.specs.Prelude.{ℕ, List, []}
use Rattle.std.specs.List.Sorted.{IsStrictlySortedBy}
use Rattle.rbac_terms.specs.Name.{Name, Grant, name_cmp, pair_cmp, grant_cmp}

-- users, roles, UA and PA, each sorted and without repeats
pub record Sets : Type 0 where
  pub users : List Name
  pub roles : List Name
  pub assigned : List (Name × Name)
  pub granted : List Grant

-- and for how many more of each there is room
pub record RoleSets : Type 0 where
  pub content : Sets
  pub room : ℕ

-- nothing
abbrev pub no_sets : Sets
no_sets = record { users = []; roles = []; assigned = []; granted = [] }

-- each list is in order and without repeats
pub record AreInOrder (s : Sets) : Type 0 where
  pub users : IsStrictlySortedBy name_cmp s.users
  pub roles : IsStrictlySortedBy name_cmp s.roles
  pub assigned : IsStrictlySortedBy pair_cmp s.assigned
  pub granted : IsStrictlySortedBy grant_cmp s.granted
