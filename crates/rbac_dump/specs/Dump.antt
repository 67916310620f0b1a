-- A state told as commands: its dump.
use Rattle.std.specs.Prelude.{ℕ, List, [], ◌∷◌, ◌++◌, Bool, map, length, take, drop, nat_lt, if◌then◌else◌}
use Rattle.std.specs.List.{flat_map}
use Rattle.rbac_terms.specs.Name.{Name, Grant}
use Rattle.rbac_terms.specs.Separation.{RoleSet}
use Rattle.rbac_terms.specs.State.{State, Session}
use Rattle.rbac_terms.specs.declared.separation.Separation.{Separation}
use Rattle.rbac_terms.specs.declared.separation.Separation.TheVariants.{Static, Dynamic}
use Rattle.rbac_terms.specs.declared.command.Command.{Command}
use Rattle.rbac_terms.specs.declared.command.Command.TheVariants.{AddUser, AddRole, AssignUser, GrantPermission, AddInheritance, CreateSet, AddRoleMember, SetCardinality, CreateSession, AddActiveRole}
use Rattle.rbac_text.specs.CommandText.{command_text}

-- ---- The command that makes an element of each of the sets

abbrev pub user_command : Name → Command
user_command user = AddUser user

abbrev pub role_command : Name → Command
role_command role = AddRole role

abbrev pub assignment_command : Name × Name → Command
assignment_command pair = AssignUser pair.0 pair.1

abbrev pub declaration_command : Name × Name → Command
declaration_command pair = AddInheritance pair.0 pair.1

abbrev pub grant_command : Grant → Command
grant_command grant = GrantPermission grant.0.0 grant.0.1 grant.1

abbrev pub set_command : Separation → Name × RoleSet → Command
set_command kind e = CreateSet kind e.0 e.1.roles e.1.cardinality

abbrev pub session_command : Name × Session → Command
session_command e = CreateSession e.1.owner e.0 e.1.active

-- ---- Sets and sessions of so many roles that there is no room for the text of that command

abbrev pub is_long : ℕ → Command → Bool
is_long room command = nat_lt room (length (command_text command))

abbrev pub member_command : Separation → Name → Name → Command
member_command kind set role = AddRoleMember kind set role

abbrev pub activation_command : Name → Name → Name → Command
activation_command owner session role = AddActiveRole owner session role

-- a set made of its first two roles and the number 2, then its other roles, and then its number
abbrev pub set_parts : Separation → Name × RoleSet → List Command
set_parts kind e = CreateSet kind e.0 (take 2 e.1.roles) 2 ∷ map (member_command kind e.0) (drop 2 e.1.roles) ++ SetCardinality kind e.0 e.1.cardinality ∷ []

-- a session made of its first two roles, and then its other roles
abbrev pub session_parts : Name × Session → List Command
session_parts e = CreateSession e.1.owner e.0 (take 2 e.1.active) ∷ map (activation_command e.1.owner e.0) (drop 2 e.1.active)

-- what makes a set before users have roles: while there are fewer roles in it than there will be, nobody breaks it
abbrev pub early_set : ℕ → Separation → Name × RoleSet → List Command
early_set room kind e = if is_long room (set_command kind e) then set_parts kind e else []

-- what makes a set that has room
abbrev pub late_set : ℕ → Separation → Name × RoleSet → List Command
late_set room kind e = if is_long room (set_command kind e) then [] else set_command kind e ∷ []

abbrev pub session_commands : ℕ → Name × Session → List Command
session_commands room e = if is_long room (session_command e) then session_parts e else session_command e ∷ []

-- ---- All of them

-- the commands that make what a state holds, in texts of at most so many bytes: one for each thing, but for a set or a session that
-- is too long; users and roles before what names them, and all that authorizes a user before what asks for it
abbrev pub dump_of : ℕ → State → List Command
dump_of room s =
    map user_command s.users
    ++ map role_command s.roles
    ++ flat_map (early_set room Static) s.static_sets
    ++ flat_map (early_set room Dynamic) s.dynamic_sets
    ++ map assignment_command s.assigned
    ++ map declaration_command s.declared
    ++ map grant_command s.granted
    ++ flat_map (late_set room Static) s.static_sets
    ++ flat_map (session_commands room) s.sessions
    ++ flat_map (late_set room Dynamic) s.dynamic_sets

-- the least room in which each thing can be told
abbrev pub least_room : ℕ
least_room = 512
