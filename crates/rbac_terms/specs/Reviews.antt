-- What the reviews list (ANSI INCITS 359-2004, 6.1.3, 6.1.4 and the review functions of 6.2 to 6.4). Each list is a set of what
-- exists, in its order: the users, the roles, the operations or the permissions of which something is so.
use Rattle.std.specs.Prelude.{ℕ, List, [], Option, Some, None, map, filter}
use Rattle.std.specs.List.{list_any}
use Rattle.std.specs.FinMap.Entries.{find}
use Rattle.sorted_keys.specs.Keys.{has}
use Rattle.rbac_terms.specs.Name.{Name, Permission, name_cmp, pair_cmp}
use Rattle.rbac_terms.specs.Relations.{users_of, roles_of}
use Rattle.rbac_terms.specs.Separation.{RoleSet}
use Rattle.rbac_terms.specs.State.{State, Session}
use Rattle.rbac_terms.specs.Authorization.{is_authorized, has_permission}
use Rattle.rbac_terms.specs.Constraints.{sets_of}
use Rattle.rbac_terms.specs.declared.review.Review.{Review}
use Rattle.rbac_terms.specs.declared.review.Review.TheVariants.{AssignedUsers, AssignedRoles, AuthorizedUsers, AuthorizedRoles, RolePermissions, UserPermissions, SessionRoles, SessionPermissions, RoleOperationsOnObject, UserOperationsOnObject, RoleSets, RoleSetRoles, RoleSetCardinality}
use Rattle.rbac_terms.specs.declared.answer.Answer.{Answer}
use Rattle.rbac_terms.specs.declared.answer.Answer.TheVariants.{Names, Permissions, Count}

-- the users that are authorized for the role
abbrev pub authorized_users : State → Name → List Name
authorized_users s role = filter (λ user. is_authorized s user role) s.users

-- the roles that the user is authorized for
abbrev pub authorized_roles : State → Name → List Name
authorized_roles s user = filter (is_authorized s user) s.roles

-- the roles that are active in the session
abbrev pub active_in : Option Session → List Name
active_in None = []
active_in (Some session) = session.active

abbrev pub active_roles : State → Name → List Name
active_roles s session = active_in (find name_cmp session s.sessions)

-- the permissions of the role, inherited ones included
abbrev pub role_permissions : State → Name → List Permission
role_permissions s role = filter (λ permission. has_permission s permission role) s.vocabulary.permissions

-- the permissions of some of the roles
abbrev pub permissions_of : State → List Name → List Permission
permissions_of s roles = filter (λ permission. list_any (has_permission s permission) roles) s.vocabulary.permissions

-- the permissions of the roles that the user is authorized for, and of those that are active in the session
abbrev pub user_permissions : State → Name → List Permission
user_permissions s user = permissions_of s (authorized_roles s user)

abbrev pub session_permissions : State → Name → List Permission
session_permissions s session = permissions_of s (active_roles s session)

-- the operations on the object that are among these permissions
abbrev pub operations_on : Name → List Permission → List Name → List Name
operations_on object permissions operations = filter (λ operation. has pair_cmp (operation, object) permissions) operations

abbrev pub role_operations : State → Name → Name → List Name
role_operations s role object = operations_on object (role_permissions s role) s.vocabulary.operations

abbrev pub user_operations : State → Name → Name → List Name
user_operations s user object = operations_on object (user_permissions s user) s.vocabulary.operations

-- the names of sets of separation
abbrev pub set_names : List (Name × RoleSet) → List Name
set_names sets = map (λ e. e.0) sets

-- the roles of a set of separation, and its number
abbrev pub roles_in : Option RoleSet → List Name
roles_in None = []
roles_in (Some set) = set.roles

abbrev pub number_of : Option RoleSet → ℕ
number_of None = 0
number_of (Some set) = set.cardinality

-- the answer to a review that is not denied
abbrev pub review_answer : Review → State → Answer
review_answer (AssignedUsers role) s = Names (users_of role s.users s.assigned)
review_answer (AssignedRoles user) s = Names (roles_of user s.roles s.assigned)
review_answer (AuthorizedUsers role) s = Names (authorized_users s role)
review_answer (AuthorizedRoles user) s = Names (authorized_roles s user)
review_answer (RolePermissions role) s = Permissions (role_permissions s role)
review_answer (UserPermissions user) s = Permissions (user_permissions s user)
review_answer (SessionRoles session) s = Names (active_roles s session)
review_answer (SessionPermissions session) s = Permissions (session_permissions s session)
review_answer (RoleOperationsOnObject role object) s = Names (role_operations s role object)
review_answer (UserOperationsOnObject user object) s = Names (user_operations s user object)
review_answer (RoleSets kind) s = Names (set_names (sets_of kind s))
review_answer (RoleSetRoles kind set) s = Names (roles_in (find name_cmp set (sets_of kind s)))
review_answer (RoleSetCardinality kind set) s = Count (number_of (find name_cmp set (sets_of kind s)))
