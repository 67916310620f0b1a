-- The state of a policy, as plain sets. A set is the list of its elements, sorted and without repeats, so that two
-- sets are equal exactly where they have the same elements.
use Rattle.std.specs.Prelude.{List, []}
use Rattle.rbac_terms.specs.Name.{Name, Grant}
use Rattle.rbac_terms.specs.Vocabulary.{Vocabulary}
use Rattle.rbac_terms.specs.Separation.{RoleSet}

-- a session has one owner and a set of active roles (ANSI INCITS 359-2004, 5.1: session_users, session_roles)
pub record Session : Type 0 where
  pub owner : Name
  pub active : List Name

-- ANSI INCITS 359-2004, 5.1 Core RBAC, 5.2 Hierarchical RBAC and 5.3 Constrained RBAC
pub record State : Type 0 where
  -- USERS
  pub users : List Name
  -- ROLES
  pub roles : List Name
  -- UA: user and role
  pub assigned : List (Name × Name)
  -- PA: permission and role
  pub granted : List Grant
  -- RH: ascendant and descendant, each pair that was declared
  pub declared : List (Name × Name)
  -- SSD and DSD, each set by its name
  pub static_sets : List (Name × RoleSet)
  pub dynamic_sets : List (Name × RoleSet)
  -- SESSIONS, each by its name
  pub sessions : List (Name × Session)
  -- OPS, OBS, PRMS and the kind of the hierarchy, which no command changes
  pub vocabulary : Vocabulary

-- the vocabulary and nothing else
abbrev pub founding_state : Vocabulary → State
founding_state v = record {
  users = [];
  roles = [];
  assigned = [];
  granted = [];
  declared = [];
  static_sets = [];
  dynamic_sets = [];
  sessions = [];
  vocabulary = v;
}
