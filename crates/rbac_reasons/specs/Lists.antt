-- What a policy holds of one role.
use Rattle.std.specs.Prelude.{List, filter}
use Rattle.sorted_keys.specs.Keys.{has}
use Rattle.rbac_terms.specs.Name.{Name, Permission, grant_cmp}
use Rattle.rbac_terms.specs.State.{State}

-- a pair the other way round
abbrev pub turned : Name × Name → Name × Name
turned pair = (pair.1, pair.0)

-- the permissions that are granted to the role itself (ANSI INCITS 359-2004, 5.1: PA), among those of the founding
abbrev pub granted_to : State → Name → List Permission
granted_to s role = filter (λ permission. has grant_cmp (permission, role) s.granted) s.vocabulary.permissions
