-- What each command changes.
use Rattle.std.specs.Prelude.{ℕ, List, Bool, not, ◌&&◌}
use Rattle.std.specs.FinMap.Entries.{put}
use Rattle.std.specs.List.{filter}
use Rattle.std.specs.Ordering.{eq_by_cmp}
use Rattle.sorted_keys.specs.Keys.{has, with_key, without, without_key, updated}
use Rattle.rbac_terms.specs.Name.{Name, name_cmp, pair_cmp, grant_cmp}
use Rattle.rbac_terms.specs.Separation.{RoleSet}
use Rattle.rbac_terms.specs.State.{State, Session}
use Rattle.rbac_terms.specs.Relations.{without_user, without_role, without_pairs_of}
use Rattle.rbac_terms.specs.Authorization.{purge}
use Rattle.rbac_terms.specs.Constraints.{sets_of, with_sets}
use Rattle.rbac_terms.specs.declared.command.Command.{Command}
use Rattle.rbac_terms.specs.declared.command.Command.TheVariants.{AddUser, DeleteUser, AddRole, DeleteRole, AssignUser, DeassignUser, GrantPermission, RevokePermission, AddInheritance, DeleteInheritance, AddAscendant, AddDescendant, CreateSet, DeleteSet, AddRoleMember, DeleteRoleMember, SetCardinality, CreateSession, DeleteSession, AddActiveRole, DropActiveRole, CheckAccess, Review as ReviewCommand}

-- a session with one more active role, or with one fewer
abbrev pub with_active : Name → Session → Session
with_active role session = record session { active = with_key name_cmp role session.active }

abbrev pub without_active : Name → Session → Session
without_active role session = record session { active = without name_cmp role session.active }

-- a set with one more role, with one fewer, or with another number
abbrev pub with_member : Name → RoleSet → RoleSet
with_member role set = record set { roles = with_key name_cmp role set.roles }

abbrev pub without_member : Name → RoleSet → RoleSet
without_member role set = record set { roles = without name_cmp role set.roles }

abbrev pub with_cardinality : ℕ → RoleSet → RoleSet
with_cardinality n set = record set { cardinality = n }

-- the sessions but for those of which this is so
abbrev pub ended_where : (Session → Bool) → List (Name × Session) → List (Name × Session)
ended_where ends sessions = filter (λ e. not (ends e.1)) sessions

-- the state without the sessions of which this is so
abbrev pub end_sessions : (Session → Bool) → State → State
end_sessions ends s = record s { sessions = ended_where ends s.sessions }

-- the change of a command that is not denied, as set equations (ANSI INCITS 359-2004, 6.1.1, 6.1.2 and 6.2 to 6.4; that pairs
-- stay as they were declared, and which sessions a deletion ends, is this project's own)
abbrev pub change : Command → State → State
change (AddUser user) s = record s { users = with_key name_cmp user s.users }
change (DeleteUser user) s =
    end_sessions (λ x. eq_by_cmp name_cmp user x.owner)
    (record s { users = without name_cmp user s.users; assigned = without_user user s.assigned })
change (AddRole role) s = record s { roles = with_key name_cmp role s.roles }
change (DeleteRole role) s =
    purge (end_sessions (λ x. has name_cmp role x.active)
    (record s { roles = without name_cmp role s.roles; assigned = without_role role s.assigned; granted = without_role role s.granted; declared = without_pairs_of role s.declared }))
change (AssignUser user role) s = record s { assigned = with_key pair_cmp (user, role) s.assigned }
change (DeassignUser user role) s =
    purge (end_sessions (λ x. eq_by_cmp name_cmp user x.owner && has name_cmp role x.active)
    (record s { assigned = without pair_cmp (user, role) s.assigned }))
change (GrantPermission operation object role) s = record s { granted = with_key grant_cmp ((operation, object), role) s.granted }
change (RevokePermission operation object role) s = record s { granted = without grant_cmp ((operation, object), role) s.granted }
change (AddInheritance ascendant descendant) s = record s { declared = with_key pair_cmp (ascendant, descendant) s.declared }
change (DeleteInheritance ascendant descendant) s = purge (record s { declared = without pair_cmp (ascendant, descendant) s.declared })
change (AddAscendant ascendant descendant) s =
    record s { roles = with_key name_cmp ascendant s.roles; declared = with_key pair_cmp (ascendant, descendant) s.declared }
change (AddDescendant ascendant descendant) s =
    record s { roles = with_key name_cmp descendant s.roles; declared = with_key pair_cmp (ascendant, descendant) s.declared }
change (CreateSet kind set roles n) s = with_sets kind (put name_cmp set (record { roles = roles; cardinality = n }) (sets_of kind s)) s
change (DeleteSet kind set) s = with_sets kind (without_key name_cmp set (sets_of kind s)) s
change (AddRoleMember kind set role) s = with_sets kind (updated name_cmp set (with_member role) (sets_of kind s)) s
change (DeleteRoleMember kind set role) s = with_sets kind (updated name_cmp set (without_member role) (sets_of kind s)) s
change (SetCardinality kind set n) s = with_sets kind (updated name_cmp set (with_cardinality n) (sets_of kind s)) s
change (CreateSession user session roles) s = record s { sessions = put name_cmp session (record { owner = user; active = roles }) s.sessions }
change (DeleteSession user session) s = record s { sessions = without_key name_cmp session s.sessions }
change (AddActiveRole user session role) s = record s { sessions = updated name_cmp session (with_active role) s.sessions }
change (DropActiveRole user session role) s = record s { sessions = updated name_cmp session (without_active role) s.sessions }
change (CheckAccess session operation object) s = s
change (ReviewCommand review) s = s
