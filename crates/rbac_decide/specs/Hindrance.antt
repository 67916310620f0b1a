-- What stands in the way of a command that is denied: its first failing precondition, and the names that make it fail. It stands
-- beside the rows of preconditions (ANSI INCITS 359-2004, 6.1.1, 6.1.2 and 6.2 to 6.4; their names and their order are this project's
-- own), and where a precondition fails for several names, the first in order is told.
use Rattle.std.specs.Prelude.{◌≡◌, ⊤, List, [], ◌∷◌, Bool, true, false, not, if◌then◌else◌, Option, Some, None, Result, Ok, Err}
use Rattle.rbac_decide.specs.Words.{find, first_where, option_map, eq_by_cmp, has, is_authorized, change, breaks_static, breaks_dynamic, Name, name_cmp}
use Rattle.rbac_decide.specs.Words.{active_roles, first_denial, RoleSet, is_broken_by, is_broken, is_constrained, State, Session, Command, AddUser, DeleteUser}
use Rattle.rbac_decide.specs.Words.{AddRole, DeleteRole, AssignUser, DeassignUser, GrantPermission, RevokePermission, AddInheritance, DeleteInheritance}
use Rattle.rbac_decide.specs.Words.{AddAscendant, AddDescendant, CreateSet, DeleteSet, AddRoleMember, DeleteRoleMember, SetCardinality, CreateSession}
use Rattle.rbac_decide.specs.Words.{DeleteSession, AddActiveRole, DropActiveRole, CheckAccess, ReviewCommand, Separation, Static, Dynamic}
use Rattle.rbac_terms.specs.declared.review.Review.{Review}
use Rattle.rbac_terms.specs.declared.review.Review.TheVariants.{AssignedUsers, AssignedRoles, AuthorizedUsers, AuthorizedRoles, RolePermissions, UserPermissions, SessionRoles, SessionPermissions, RoleOperationsOnObject, UserOperationsOnObject, RoleSets, RoleSetRoles, RoleSetCardinality}
use Rattle.rbac_terms.specs.declared.answer.Denial.{Denial}
use Rattle.rbac_terms.specs.declared.answer.Denial.TheVariants.{UserExists, NoUser, RoleExists, NoRole, Assigned, NoPermission, SessionExists, NoSession, NotOwner, NotAuthorized, RoleActive, SsdViolated, DsdViolated, SetExists, NoSet, BadCardinality, InSet, NotInSet, Limit, NoOperation, Limited}
use Rattle.rbac_decide.specs.declared.named.Counted.{Counted}
use Rattle.rbac_decide.specs.declared.named.Counted.TheVariants.{Users, Roles, Sessions, Sets}
use Rattle.rbac_decide.specs.declared.named.Named.{Named as NamedByReferences}
use Rattle.rbac_decide.specs.declared.named.Named.TheVariants.{User, Role, Session as OfSession, Operation, Object, Permission, Grant, Assignment, Activation, Pair, Set, Member, Breach, Count}
use Rattle.rbac_decide.specs.declared.hindrance.Hindrance.{Hindrance as HindranceByReferences}
use Rattle.rbac_decide.specs.declared.hindrance.Obstacle.{Obstacle}
use Rattle.rbac_decide.specs.declared.hindrance.Obstacle.TheVariants.{Denied, NoMemory}

-- names, by what they name: a permission is an operation and an object, a grant a permission and a role, an assignment a user and a
-- role, an activation a session and a role, a pair an ascendant and a descendant, a member a set and a role, a breach a user (static)
-- or a session (dynamic) and a set that it breaks
pub data Named : Type 0 where
  a_user : Name → Named
  a_role : Name → Named
  a_session : Name → Named
  an_operation : Name → Named
  an_object : Name → Named
  a_permission : Name → Name → Named
  a_grant : Name → Name → Name → Named
  an_assignment : Name → Name → Named
  an_activation : Name → Name → Named
  a_pair : Name → Name → Named
  a_set : Separation → Name → Named
  a_member : Separation → Name → Name → Named
  a_breach : Separation → Name → Name → Named
  a_count : Counted → Named

pub record Hindrance : Type 0 where
  pub denial : Denial
  pub named : Named

-- ---- The first for which something is so

-- the name, or that of the entry, that was found
abbrev pub name_found : Option Name → Name
name_found None = []
name_found (Some name) = name

abbrev pub name_of : {X : Type 0} → Option (Name × X) → Name
name_of None = []
name_of (Some e) = e.0

-- the first of the names of which this is so, and the name of the first such entry
abbrev pub first_name : (Name → Bool) → List Name → Name
first_name test names = name_found (first_where test names)

abbrev pub first_entry : {X : Type 0} → (X → Bool) → List (Name × X) → Name
first_entry test entries = name_of (first_where (λ e. test e.1) entries)

-- the first user that breaks a static set, and the first set that it breaks; the first session that breaks a dynamic set, and the
-- first set that it breaks
abbrev pub first_set_of : State → Name → Name
first_set_of s user = first_entry (is_broken_by (is_authorized s user)) s.static_sets

abbrev pub static_breach : State → Named
static_breach s = a_breach Static (first_name (breaks_static s) s.users) (first_set_of s (first_name (breaks_static s) s.users))

abbrev pub first_set_in : State → Name → Name
first_set_in s session = first_entry (is_broken (active_roles s session)) s.dynamic_sets

abbrev pub dynamic_breach : State → Named
dynamic_breach s = a_breach Dynamic (first_entry (breaks_dynamic s) s.sessions) (first_set_in s (first_entry (breaks_dynamic s) s.sessions))

abbrev pub breach_of : Separation → State → Named
breach_of Static s = static_breach s
breach_of Dynamic s = dynamic_breach s

-- the first static set that has the role, or else the first dynamic one
abbrev pub constraint_of : Name → State → Named
constraint_of role s =
    if is_constrained role s.static_sets
    then a_set Static (first_entry (λ (x : RoleSet). has name_cmp role x.roles) s.static_sets)
    else a_set Dynamic (first_entry (λ (x : RoleSet). has name_cmp role x.roles) s.dynamic_sets)

-- the first of the names that is no role
abbrev pub missing_role : State → List Name → Name
missing_role s names = first_name (λ name. not (has name_cmp name s.roles)) names

-- whose session it is
abbrev pub owner_in : Option Session → Name
owner_in None = []
owner_in (Some session) = session.owner

-- the first declared descendant of the role
abbrev pub descendant_of : Option (Name × Name) → Name
descendant_of None = []
descendant_of (Some pair) = pair.1

abbrev pub first_descendant : State → Name → Name
first_descendant s role = descendant_of (first_where (λ pair. eq_by_cmp name_cmp role pair.0) s.declared)

-- ---- What each denial of a command names

abbrev pub named_by_review : Review → Denial → Named
named_by_review (AssignedUsers role) d = a_role role
named_by_review (AssignedRoles user) d = a_user user
named_by_review (AuthorizedUsers role) d = a_role role
named_by_review (AuthorizedRoles user) d = a_user user
named_by_review (RolePermissions role) d = a_role role
named_by_review (UserPermissions user) d = a_user user
named_by_review (SessionRoles session) d = a_session session
named_by_review (SessionPermissions session) d = a_session session
named_by_review (RoleOperationsOnObject role object) NoRole = a_role role
named_by_review (RoleOperationsOnObject role object) d = an_object object
named_by_review (UserOperationsOnObject user object) NoUser = a_user user
named_by_review (UserOperationsOnObject user object) d = an_object object
named_by_review (RoleSets kind) d = a_count (Sets kind)
named_by_review (RoleSetRoles kind set) d = a_set kind set
named_by_review (RoleSetCardinality kind set) d = a_set kind set

-- the last line of a command tells what its last precondition names
abbrev pub named : Command → State → Denial → Named
named (AddUser user) s UserExists = a_user user
named (AddUser user) s d = a_count Users
named (DeleteUser user) s d = a_user user
named (AddRole role) s RoleExists = a_role role
named (AddRole role) s d = a_count Roles
named (DeleteRole role) s NoRole = a_role role
named (DeleteRole role) s d = constraint_of role s
named (AssignUser user role) s NoUser = a_user user
named (AssignUser user role) s NoRole = a_role role
named (AssignUser user role) s Assigned = an_assignment user role
named (AssignUser user role) s d = static_breach (change (AssignUser user role) s)
named (DeassignUser user role) s NoUser = a_user user
named (DeassignUser user role) s NoRole = a_role role
named (DeassignUser user role) s d = an_assignment user role
named (GrantPermission operation object role) s NoPermission = a_permission operation object
named (GrantPermission operation object role) s d = a_role role
named (RevokePermission operation object role) s NoPermission = a_permission operation object
named (RevokePermission operation object role) s NoRole = a_role role
named (RevokePermission operation object role) s d = a_grant operation object role
named (AddInheritance ascendant descendant) s NoRole = a_role (missing_role s (ascendant ∷ descendant ∷ []))
named (AddInheritance ascendant descendant) s Limited = a_pair ascendant (first_descendant s ascendant)
named (AddInheritance ascendant descendant) s SsdViolated = static_breach (change (AddInheritance ascendant descendant) s)
named (AddInheritance ascendant descendant) s d = a_pair ascendant descendant
named (DeleteInheritance ascendant descendant) s NoRole = a_role (missing_role s (ascendant ∷ descendant ∷ []))
named (DeleteInheritance ascendant descendant) s d = a_pair ascendant descendant
named (AddAscendant ascendant descendant) s RoleExists = a_role ascendant
named (AddAscendant ascendant descendant) s NoRole = a_role descendant
named (AddAscendant ascendant descendant) s d = a_count Roles
named (AddDescendant ascendant descendant) s RoleExists = a_role descendant
named (AddDescendant ascendant descendant) s NoRole = a_role ascendant
named (AddDescendant ascendant descendant) s Limited = a_pair ascendant (first_descendant s ascendant)
named (AddDescendant ascendant descendant) s d = a_count Roles
named (CreateSet kind set roles n) s NoRole = a_role (missing_role s roles)
named (CreateSet kind set roles n) s SetExists = a_set kind set
named (CreateSet kind set roles n) s BadCardinality = a_set kind set
named (CreateSet kind set roles n) s Limit = a_count (Sets kind)
named (CreateSet kind set roles n) s d = breach_of kind (change (CreateSet kind set roles n) s)
named (DeleteSet kind set) s d = a_set kind set
named (AddRoleMember kind set role) s NoSet = a_set kind set
named (AddRoleMember kind set role) s NoRole = a_role role
named (AddRoleMember kind set role) s InSet = a_member kind set role
named (AddRoleMember kind set role) s d = breach_of kind (change (AddRoleMember kind set role) s)
named (DeleteRoleMember kind set role) s NotInSet = a_member kind set role
named (DeleteRoleMember kind set role) s d = a_set kind set
named (SetCardinality kind set n) s NoSet = a_set kind set
named (SetCardinality kind set n) s BadCardinality = a_set kind set
named (SetCardinality kind set n) s d = breach_of kind (change (SetCardinality kind set n) s)
named (CreateSession user session roles) s NoUser = a_user user
named (CreateSession user session roles) s SessionExists = a_session session
named (CreateSession user session roles) s NotAuthorized = a_role (first_name (λ role. not (is_authorized s user role)) roles)
named (CreateSession user session roles) s DsdViolated = dynamic_breach (change (CreateSession user session roles) s)
named (CreateSession user session roles) s d = a_count Sessions
named (DeleteSession user session) s NoUser = a_user user
named (DeleteSession user session) s NoSession = a_session session
named (DeleteSession user session) s d = a_user (owner_in (find name_cmp session s.sessions))
named (AddActiveRole user session role) s NoUser = a_user user
named (AddActiveRole user session role) s NoSession = a_session session
named (AddActiveRole user session role) s NotOwner = a_user (owner_in (find name_cmp session s.sessions))
named (AddActiveRole user session role) s RoleActive = an_activation session role
named (AddActiveRole user session role) s DsdViolated = dynamic_breach (change (AddActiveRole user session role) s)
named (AddActiveRole user session role) s d = a_role role
named (DropActiveRole user session role) s NoUser = a_user user
named (DropActiveRole user session role) s NoSession = a_session session
named (DropActiveRole user session role) s NoRole = a_role role
named (DropActiveRole user session role) s NotOwner = a_user (owner_in (find name_cmp session s.sessions))
named (DropActiveRole user session role) s d = an_activation session role
named (CheckAccess session operation object) s NoSession = a_session session
named (CheckAccess session operation object) s NoOperation = an_operation operation
named (CheckAccess session operation object) s d = an_object object
named (ReviewCommand review) s d = named_by_review review d

-- ---- The first hindrance

abbrev pub hindrance_of : Command → State → Denial → Hindrance
hindrance_of c s denial = record { denial = denial; named = named c s denial }

-- the first failing precondition with what it names, or none
abbrev pub first_hindrance : Command → State → Option Hindrance
first_hindrance c s = option_map (hindrance_of c s) (first_denial c s)

-- the names behind references
abbrev pub names_of : NamedByReferences → Named
names_of (User user) = a_user user.now
names_of (Role role) = a_role role.now
names_of (OfSession session) = a_session session.now
names_of (Operation operation) = an_operation operation.now
names_of (Object object) = an_object object.now
names_of (Permission operation object) = a_permission operation.now object.now
names_of (Grant operation object role) = a_grant operation.now object.now role.now
names_of (Assignment user role) = an_assignment user.now role.now
names_of (Activation session role) = an_activation session.now role.now
names_of (Pair ascendant descendant) = a_pair ascendant.now descendant.now
names_of (Set kind set) = a_set kind set.now
names_of (Member kind set role) = a_member kind set.now role.now
names_of (Breach kind holder set) = a_breach kind holder.now set.now
names_of (Count counted) = a_count counted

abbrev pub told_by : HindranceByReferences → Hindrance
told_by hindrance = record { denial = hindrance.denial; named = names_of hindrance.named }

-- nothing hinders the command where all its tests pass, and otherwise this does
abbrev pub Decides : {A : Type 0} → Command → State → Result A HindranceByReferences → Type 0
Decides c s (Ok passed) = first_hindrance c s ≡ None
Decides c s (Err hindrance) = first_hindrance c s ≡ Some (told_by hindrance)

-- the same, where the tests may want memory
abbrev pub DecidesUnless : {A : Type 0} → Command → State → Result A Obstacle → Type 0
DecidesUnless c s (Ok passed) = first_hindrance c s ≡ None
DecidesUnless c s (Err (Denied hindrance)) = first_hindrance c s ≡ Some (told_by hindrance)
DecidesUnless c s (Err NoMemory) = ⊤

-- where a precondition fails these names are told, and nothing where it does not fail
abbrev pub Tells : Bool → Named → Option NamedByReferences → Type 0
Tells fails names None = fails ≡ false
Tells fails names (Some found) = (fails ≡ true) × (names_of found ≡ names)

-- what is told of a denial by its word alone
abbrev pub DeniesUnless : {A : Type 0} → Option Denial → Result A Obstacle → Type 0
DeniesUnless denial (Ok passed) = denial ≡ None
DeniesUnless denial (Err (Denied hindrance)) = denial ≡ Some hindrance.denial
DeniesUnless denial (Err NoMemory) = ⊤

-- where a precondition fails this is told, and nothing where it does not fail
abbrev pub Denies : {A : Type 0} → Bool → Hindrance → Result A HindranceByReferences → Type 0
Denies fails told (Ok passed) = fails ≡ false
Denies fails told (Err hindrance) = (fails ≡ true) × (told_by hindrance ≡ told)
