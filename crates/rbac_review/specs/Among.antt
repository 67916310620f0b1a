-- What is assigned or granted to one of these roles.
use Rattle.std.specs.Prelude.{List, Bool, ◌&&◌}
use Rattle.std.specs.List.{list_any}
use Rattle.std.specs.Ordering.{eq_by_cmp}
use Rattle.sorted_keys.specs.Keys.{has}
use Rattle.rbac_terms.specs.Name.{Name, Permission, Grant, name_cmp, pair_cmp}
use Rattle.rbac_terms.specs.State.{Session}

-- the user is assigned one of the roles
abbrev pub is_assigned_one : List Name → List (Name × Name) → Name → Bool
is_assigned_one roles assigned user = list_any (λ p. eq_by_cmp name_cmp user p.0 && has name_cmp p.1 roles) assigned

-- the permission is granted to one of the roles
abbrev pub is_granted_to_one : List Name → List Grant → Permission → Bool
is_granted_to_one roles granted permission = list_any (λ g. eq_by_cmp pair_cmp permission g.0 && has name_cmp g.1 roles) granted

-- one of the roles is active in the session
abbrev pub is_at_work : List Name → Session → Bool
is_at_work roles session = list_any (λ role. has name_cmp role roles) session.active
