-- The change of a command in two parts: what may want memory, told for each table, and what is taken out after it, which wants none.
use Rattle.std.specs.Prelude.{⊤, ◌≡◌, ◌≤◌, List, [], Option, length}
use Rattle.rbac_decide.specs.Words.{put, has, with_key, without, updated, purge, change, end_sessions, with_active, with_member, Name, name_cmp, pair_cmp}
use Rattle.rbac_decide.specs.Words.{grant_cmp, RoleSet, State, Session, Command, AddUser, DeleteUser, AddRole, DeleteRole, AssignUser, DeassignUser}
use Rattle.rbac_decide.specs.Words.{GrantPermission, RevokePermission, AddInheritance, DeleteInheritance, AddAscendant, AddDescendant, CreateSet, DeleteSet}
use Rattle.rbac_decide.specs.Words.{AddRoleMember, DeleteRoleMember, SetCardinality, CreateSession, DeleteSession, AddActiveRole, DropActiveRole, Separation}
use Rattle.rbac_decide.specs.Words.{Static, Dynamic, Sets, with_pair, made as made_order, Order}
use Rattle.staged.specs.Entries.{after_entries}
use Rattle.staged.specs.Made.{made_all}
use Rattle.rbac_terms.specs.Relations.{without_role, without_pairs_of}
use Rattle.rbac_rolesets.specs.Changes.{made as made_sets}
use Rattle.rbac_rolesets.specs.declared.change.Step.{Step as SetsStep}
use Rattle.rbac_hierarchy.specs.declared.change.Step.{Step as OrderStep}
use Rattle.rbac_separation.specs.Changes.{changed as changed_set}
use Rattle.rbac_separation.specs.declared.set_plan.SetChange.{SetChange}
use Rattle.rbac_decide.specs.declared.tables.Tables.{Tables}
use Rattle.rbac_decide.specs.Tables.{HasSoundSessions, HadSoundSessions}
use Rattle.rbac_decide.specs.declared.tables.planning.TablesPlan.{TablesPlan}
use Rattle.rbac_decide.specs.declared.tables.planning.TablesPlan.TheVariants.{OfSets, OfRoles, OfOrder, OfRoleSets, OfSessions}

-- users, roles, UA and PA
abbrev pub sets_after : Command → Sets → Sets
sets_after (AddUser user) s = record s { users = with_key name_cmp user s.users }
sets_after (AddRole role) s = record s { roles = with_key name_cmp role s.roles }
sets_after (AddAscendant ascendant descendant) s = record s { roles = with_key name_cmp ascendant s.roles }
sets_after (AddDescendant ascendant descendant) s = record s { roles = with_key name_cmp descendant s.roles }
sets_after (AssignUser user role) s = record s { assigned = with_key pair_cmp (user, role) s.assigned }
sets_after (GrantPermission operation object role) s = record s { granted = with_key grant_cmp ((operation, object), role) s.granted }
sets_after c s = s

-- the roles of the hierarchy and the declared pairs, those that go among them
abbrev pub order_after : Command → Order → Order
order_after (AddRole role) h = record h { roles = with_key name_cmp role h.roles }
order_after (DeleteRole role) h = record h { roles = without name_cmp role h.roles; declared = without_pairs_of role h.declared }
order_after (AddInheritance ascendant descendant) h = with_pair ascendant descendant h
order_after (DeleteInheritance ascendant descendant) h = record h { declared = without pair_cmp (ascendant, descendant) h.declared }
order_after (AddAscendant ascendant descendant) h = with_pair ascendant descendant (record h { roles = with_key name_cmp ascendant h.roles })
order_after (AddDescendant ascendant descendant) h = with_pair ascendant descendant (record h { roles = with_key name_cmp descendant h.roles })
order_after c h = h

-- the sets of a kind
abbrev pub role_sets_after : Separation → Command → List (Name × RoleSet) → List (Name × RoleSet)
role_sets_after Static (CreateSet Static set roles n) es = put name_cmp set (record { roles = roles; cardinality = n }) es
role_sets_after Dynamic (CreateSet Dynamic set roles n) es = put name_cmp set (record { roles = roles; cardinality = n }) es
role_sets_after Static (AddRoleMember Static set role) es = updated name_cmp set (with_member role) es
role_sets_after Dynamic (AddRoleMember Dynamic set role) es = updated name_cmp set (with_member role) es
role_sets_after kind c es = es

-- the sessions
abbrev pub sessions_after : Command → List (Name × Session) → List (Name × Session)
sessions_after (CreateSession user session roles) es = put name_cmp session (record { owner = user; active = roles }) es
sessions_after (AddActiveRole user session role) es = updated name_cmp session (with_active role) es
sessions_after c es = es

-- what a command takes out after that: all that a deletion takes out of other tables than the hierarchy, sessions that end, the purge
abbrev pub taken_out : Command → State → State
taken_out (DeleteUser user) s = change (DeleteUser user) s
taken_out (DeleteRole role) s =
    purge (end_sessions (λ x. has name_cmp role x.active)
    (record s { assigned = without_role role s.assigned; granted = without_role role s.granted }))
taken_out (DeassignUser user role) s = change (DeassignUser user role) s
taken_out (RevokePermission operation object role) s = change (RevokePermission operation object role) s
taken_out (DeleteInheritance ascendant descendant) s = purge s
taken_out (DeleteSet kind set) s = change (DeleteSet kind set) s
taken_out (DeleteRoleMember kind set role) s = change (DeleteRoleMember kind set role) s
taken_out (SetCardinality kind set n) s = change (SetCardinality kind set n) s
taken_out (DeleteSession user session) s = change (DeleteSession user session) s
taken_out (DropActiveRole user session role) s = change (DropActiveRole user session role) s
taken_out c s = s

-- where an assignment is taken out, each session is as it should be, and where a pair was, each was so with it
abbrev pub TakesFromSound : Command → Tables → Type 0
TakesFromSound (DeassignUser user role) t = HasSoundSessions t
TakesFromSound (DeleteInheritance ascendant descendant) t = HadSoundSessions descendant t
TakesFromSound c t = ⊤

-- the roles of the role sets after that
abbrev pub roles_left : Command → List Name → List Name
roles_left (DeleteRole role) roles = without name_cmp role roles
roles_left c roles = roles

-- the tables are those before, with what the command makes of each
pub record IsGrown (command : Command) (t grown : Tables) : Type 0 where
  pub sets : grown.sets.content ≡ sets_after command t.sets.content
  pub hierarchy : grown.hierarchy.content ≡ order_after command t.hierarchy.content
  pub static_sets : grown.static_sets.content ≡ role_sets_after Static command t.static_sets.content
  pub dynamic_sets : grown.dynamic_sets.content ≡ role_sets_after Dynamic command t.dynamic_sets.content
  pub sessions : grown.sessions.content ≡ sessions_after command t.sessions.content

-- what a plan has for each table
abbrev pub steps_of_sets : TablesPlan → List SetsStep
steps_of_sets (OfSets sets) = sets
steps_of_sets (OfRoles sets hierarchy) = sets
steps_of_sets plan = []

abbrev pub steps_of_order : TablesPlan → List OrderStep
steps_of_order (OfRoles sets hierarchy) = hierarchy
steps_of_order (OfOrder hierarchy) = hierarchy
steps_of_order plan = []

abbrev pub steps_of_role_sets : Separation → TablesPlan → List (Name × Option RoleSet)
steps_of_role_sets Static (OfRoleSets Static role_sets) = role_sets
steps_of_role_sets Dynamic (OfRoleSets Dynamic role_sets) = role_sets
steps_of_role_sets kind plan = []

abbrev pub steps_of_sessions : TablesPlan → List (Name × Option Session)
steps_of_sessions (OfSessions sessions) = sessions
steps_of_sessions plan = []

-- a plan makes this of the tables, and there is room for it in each
pub record MakesOf (plan : TablesPlan) (t : Tables) (new_sets : Sets) (new_order : Order) (new_static new_dynamic : List (Name × RoleSet)) (new_sessions : List (Name × Session)) : Type 0 where
  pub sets : made_all made_sets (steps_of_sets plan) t.sets.content ≡ new_sets
  pub hierarchy : made_all made_order (steps_of_order plan) t.hierarchy.content ≡ new_order
  pub static_sets : after_entries name_cmp (steps_of_role_sets Static plan) t.static_sets.content ≡ new_static
  pub dynamic_sets : after_entries name_cmp (steps_of_role_sets Dynamic plan) t.dynamic_sets.content ≡ new_dynamic
  pub sessions : after_entries name_cmp (steps_of_sessions plan) t.sessions.content ≡ new_sessions
  pub room_of_sets : length (steps_of_sets plan) ≤ t.sets.room
  pub room_of_hierarchy : length (steps_of_order plan) ≤ t.hierarchy.room
  pub room_of_static_sets : length (steps_of_role_sets Static plan) ≤ t.static_sets.room
  pub room_of_dynamic_sets : length (steps_of_role_sets Dynamic plan) ≤ t.dynamic_sets.room
  pub room_of_sessions : length (steps_of_sessions plan) ≤ t.sessions.room

-- it makes of each table what the command makes of it
abbrev pub IsPlanned : Command → TablesPlan → Tables → Type 0
IsPlanned command plan t =
    MakesOf plan t (sets_after command t.sets.content) (order_after command t.hierarchy.content) (role_sets_after Static command t.static_sets.content) (role_sets_after Dynamic command t.dynamic_sets.content) (sessions_after command t.sessions.content)

-- the sets of a kind after a change of a set of one kind
abbrev pub changed_of_kind : Separation → Separation → SetChange → List (Name × RoleSet) → List (Name × RoleSet)
changed_of_kind Static Static change es = changed_set change es
changed_of_kind Dynamic Dynamic change es = changed_set change es
changed_of_kind table kind change es = es
