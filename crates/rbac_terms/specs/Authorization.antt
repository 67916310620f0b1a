-- Who is authorized for a role, which permissions a session holds, and which sessions a purge ends.
use Rattle.std.specs.Prelude.{Bool, ◌&&◌, IsTrue}
use Rattle.std.specs.List.{list_any, list_all, filter}
use Rattle.std.specs.Ordering.{eq_by_cmp}
use Rattle.sorted_keys.specs.Keys.{has}
use Rattle.rbac_terms.specs.Name.{Name, Permission, name_cmp, pair_cmp, grant_cmp}
use Rattle.rbac_terms.specs.State.{State, Session}
use Rattle.rbac_terms.specs.Inheritance.{Inherits, inherits}

-- r ≥ q in this state
abbrev pub InheritsIn : State → Name → Name → Type 0
InheritsIn s r q = Inherits s.roles s.declared r q

abbrev pub inherits_in : State → Name → Name → Bool
inherits_in s r q = inherits s.roles s.declared r q

-- the user is assigned some role that inherits this one (ANSI INCITS 359-2004, 5.2: authorized_users)
abbrev pub IsAuthorized : State → Name → Name → Type 0
IsAuthorized s user role = (senior : Name) × IsTrue (has pair_cmp (user, senior) s.assigned) × InheritsIn s senior role

abbrev pub is_authorized : State → Name → Name → Bool
is_authorized s user role = list_any (λ p. eq_by_cmp name_cmp user p.0 && inherits_in s p.1 role) s.assigned

-- the role, or one that it inherits, has the permission (ANSI INCITS 359-2004, 5.2: authorized_permissions)
abbrev pub has_permission : State → Permission → Name → Bool
has_permission s permission role = list_any (λ g. eq_by_cmp pair_cmp permission g.0 && inherits_in s role g.1) s.granted

-- some role that is active in the session inherits a role that the permission is granted to
-- (ANSI INCITS 359-2004, 5.2: authorized_permissions, and 6.1.2: CheckAccess, which names the active roles alone; that a session also holds what
-- they inherit is this project's own reading)
abbrev pub Holds : State → Session → Permission → Type 0
Holds s session permission =
    (active : Name) × (junior : Name) × IsTrue (has name_cmp active session.active) × InheritsIn s active junior × IsTrue (has grant_cmp (permission, junior) s.granted)

abbrev pub holds : State → Session → Permission → Bool
holds s session permission = list_any (has_permission s permission) session.active

-- each active role is a role, and its session's owner is authorized for it
abbrev pub is_entitled : State → Session → Bool
is_entitled s session = list_all (λ role. has name_cmp role s.roles && is_authorized s session.owner role) session.active

-- the state without the sessions that are not entitled to an active role
abbrev pub purge : State → State
purge s = record s { sessions = filter (λ e. is_entitled s e.1) s.sessions }
