-- The commands as JSON objects: for each its word, and what stands at which key, from left to right. What is read of an object and
-- what is written of a command are both told by this one table.
use Rattle.std.specs.Prelude.{ℕ, ⊤, List, [], ◌∷◌, codes, if◌then◌else◌, Ok}
use Rattle.std.specs.Str.{bytes_eq}
use Rattle.serde_json.specs.Data.{Members}
use Rattle.rbac_terms.specs.Name.{Name}
use Rattle.rbac_terms.specs.declared.separation.Separation.{Separation}
use Rattle.rbac_terms.specs.declared.separation.Separation.TheVariants.{Static, Dynamic}
use Rattle.rbac_terms.specs.declared.review.Review.{Review}
use Rattle.rbac_terms.specs.declared.review.Review.TheVariants.{AssignedUsers, AssignedRoles, AuthorizedUsers, AuthorizedRoles, RolePermissions, UserPermissions, SessionRoles, SessionPermissions, RoleOperationsOnObject, UserOperationsOnObject, RoleSets, RoleSetRoles, RoleSetCardinality}
use Rattle.rbac_terms.specs.declared.command.Command.{Command}
use Rattle.rbac_terms.specs.declared.command.Command.TheVariants.{AddUser, DeleteUser, AddRole, DeleteRole, AssignUser, DeassignUser, GrantPermission, RevokePermission, AddInheritance, DeleteInheritance, AddAscendant, AddDescendant, CreateSet, DeleteSet, AddRoleMember, DeleteRoleMember, SetCardinality, CreateSession, DeleteSession, AddActiveRole, DropActiveRole, CheckAccess, Review as ReviewCommand}
use Rattle.rbac_text.specs.Steps.{◌>>=◌, ◌>>◌}
use Rattle.rbac_text.specs.Fields.{Reading, whole_in, text_in, name_in, names_in, only_keys, unknown}

-- ---- A row of the table

-- what may stand at a key
pub data Kind : Type 0 where
  a_name : Kind
  a_set : Kind
  a_whole : Kind

-- a name, a set of names, or a whole number
abbrev pub Value : Kind → Type 0
Value a_name = Name
Value a_set = List Name
Value a_whole = ℕ

-- a key, and what stands there
abbrev pub Place : Type 0
Place = List ℕ × Kind

-- keys from left to right
abbrev pub Shape : Type 0
Shape = List Place

abbrev pub keys_of : Shape → List (List ℕ)
keys_of [] = []
keys_of (place ∷ shape) = place.0 ∷ keys_of shape

-- the values at these keys
abbrev pub Values : Shape → Type 0
Values [] = ⊤
Values (place ∷ shape) = Value place.1 × Values shape

-- what makes something of them
abbrev pub Maker : Type 0 → Shape → Type 0
Maker T [] = T
Maker T (place ∷ shape) = Value place.1 → Maker T shape

abbrev pub made_of : {T : Type 0} (shape : Shape) → Maker T shape → Values shape → T
made_of [] made values = made
made_of (place ∷ shape) made values = made_of shape (made values.0) values.1

-- a word, what stands at which keys beside it, and what it all is: a command, or a review
pub record Row (T : Type 0) : Type 0 where
  pub word : List ℕ
  pub shape : Shape
  pub made : Maker T shape

abbrev pub row : {T : Type 0} → List ℕ → (shape : Shape) → Maker T shape → Row T
row word shape made = record { word = word; shape = shape; made = made }

-- ---- The table

abbrev pub user_key : Place
user_key = (codes "user", a_name)

abbrev pub role_key : Place
role_key = (codes "role", a_name)

abbrev pub operation_key : Place
operation_key = (codes "operation", a_name)

abbrev pub object_key : Place
object_key = (codes "object", a_name)

abbrev pub ascendant_key : Place
ascendant_key = (codes "ascendant", a_name)

abbrev pub descendant_key : Place
descendant_key = (codes "descendant", a_name)

abbrev pub session_key : Place
session_key = (codes "session", a_name)

abbrev pub set_key : Place
set_key = (codes "set", a_name)

abbrev pub roles_key : Place
roles_key = (codes "roles", a_set)

abbrev pub n_key : Place
n_key = (codes "n", a_whole)

-- users, roles and permissions
abbrev pub add_user : Row Command
add_user = row (codes "AddUser") (user_key ∷ []) AddUser

abbrev pub delete_user : Row Command
delete_user = row (codes "DeleteUser") (user_key ∷ []) DeleteUser

abbrev pub add_role : Row Command
add_role = row (codes "AddRole") (role_key ∷ []) AddRole

abbrev pub delete_role : Row Command
delete_role = row (codes "DeleteRole") (role_key ∷ []) DeleteRole

abbrev pub assign_user : Row Command
assign_user = row (codes "AssignUser") (user_key ∷ role_key ∷ []) AssignUser

abbrev pub deassign_user : Row Command
deassign_user = row (codes "DeassignUser") (user_key ∷ role_key ∷ []) DeassignUser

abbrev pub grant_permission : Row Command
grant_permission = row (codes "GrantPermission") (operation_key ∷ object_key ∷ role_key ∷ []) GrantPermission

abbrev pub revoke_permission : Row Command
revoke_permission = row (codes "RevokePermission") (operation_key ∷ object_key ∷ role_key ∷ []) RevokePermission

-- the hierarchy
abbrev pub add_inheritance : Row Command
add_inheritance = row (codes "AddInheritance") (ascendant_key ∷ descendant_key ∷ []) AddInheritance

abbrev pub delete_inheritance : Row Command
delete_inheritance = row (codes "DeleteInheritance") (ascendant_key ∷ descendant_key ∷ []) DeleteInheritance

abbrev pub add_ascendant : Row Command
add_ascendant = row (codes "AddAscendant") (ascendant_key ∷ descendant_key ∷ []) AddAscendant

abbrev pub add_descendant : Row Command
add_descendant = row (codes "AddDescendant") (ascendant_key ∷ descendant_key ∷ []) AddDescendant

-- sessions
abbrev pub create_session : Row Command
create_session = row (codes "CreateSession") (user_key ∷ session_key ∷ roles_key ∷ []) CreateSession

abbrev pub delete_session : Row Command
delete_session = row (codes "DeleteSession") (user_key ∷ session_key ∷ []) DeleteSession

abbrev pub add_active_role : Row Command
add_active_role = row (codes "AddActiveRole") (user_key ∷ session_key ∷ role_key ∷ []) AddActiveRole

abbrev pub drop_active_role : Row Command
drop_active_role = row (codes "DropActiveRole") (user_key ∷ session_key ∷ role_key ∷ []) DropActiveRole

abbrev pub check_access : Row Command
check_access = row (codes "CheckAccess") (session_key ∷ operation_key ∷ object_key ∷ []) CheckAccess

-- sets of separation, each for both kinds: the one of two words that is of the kind
abbrev pub by_kind : Separation → List ℕ → List ℕ → List ℕ
by_kind Static static_word dynamic_word = static_word
by_kind Dynamic static_word dynamic_word = dynamic_word

abbrev pub create_set : Separation → Row Command
create_set kind = row (by_kind kind (codes "CreateSsdSet") (codes "CreateDsdSet")) (set_key ∷ roles_key ∷ n_key ∷ []) (CreateSet kind)

abbrev pub delete_set : Separation → Row Command
delete_set kind = row (by_kind kind (codes "DeleteSsdSet") (codes "DeleteDsdSet")) (set_key ∷ []) (DeleteSet kind)

abbrev pub add_role_member : Separation → Row Command
add_role_member kind = row (by_kind kind (codes "AddSsdRoleMember") (codes "AddDsdRoleMember")) (set_key ∷ role_key ∷ []) (AddRoleMember kind)

abbrev pub delete_role_member : Separation → Row Command
delete_role_member kind = row (by_kind kind (codes "DeleteSsdRoleMember") (codes "DeleteDsdRoleMember")) (set_key ∷ role_key ∷ []) (DeleteRoleMember kind)

abbrev pub set_cardinality : Separation → Row Command
set_cardinality kind = row (by_kind kind (codes "SetSsdSetCardinality") (codes "SetDsdSetCardinality")) (set_key ∷ n_key ∷ []) (SetCardinality kind)

-- reviews of users, roles and sessions
abbrev pub assigned_users : Row Review
assigned_users = row (codes "AssignedUsers") (role_key ∷ []) AssignedUsers

abbrev pub assigned_roles : Row Review
assigned_roles = row (codes "AssignedRoles") (user_key ∷ []) AssignedRoles

abbrev pub authorized_users : Row Review
authorized_users = row (codes "AuthorizedUsers") (role_key ∷ []) AuthorizedUsers

abbrev pub authorized_roles : Row Review
authorized_roles = row (codes "AuthorizedRoles") (user_key ∷ []) AuthorizedRoles

abbrev pub role_permissions : Row Review
role_permissions = row (codes "RolePermissions") (role_key ∷ []) RolePermissions

abbrev pub user_permissions : Row Review
user_permissions = row (codes "UserPermissions") (user_key ∷ []) UserPermissions

abbrev pub session_roles : Row Review
session_roles = row (codes "SessionRoles") (session_key ∷ []) SessionRoles

abbrev pub session_permissions : Row Review
session_permissions = row (codes "SessionPermissions") (session_key ∷ []) SessionPermissions

abbrev pub role_operations_on_object : Row Review
role_operations_on_object = row (codes "RoleOperationsOnObject") (role_key ∷ object_key ∷ []) RoleOperationsOnObject

abbrev pub user_operations_on_object : Row Review
user_operations_on_object = row (codes "UserOperationsOnObject") (user_key ∷ object_key ∷ []) UserOperationsOnObject

-- reviews of sets of separation
abbrev pub role_sets : Separation → Row Review
role_sets kind = row (by_kind kind (codes "SsdRoleSets") (codes "DsdRoleSets")) [] (RoleSets kind)

abbrev pub role_set_roles : Separation → Row Review
role_set_roles kind = row (by_kind kind (codes "SsdRoleSetRoles") (codes "DsdRoleSetRoles")) (set_key ∷ []) (RoleSetRoles kind)

abbrev pub role_set_cardinality : Separation → Row Review
role_set_cardinality kind = row (by_kind kind (codes "SsdRoleSetCardinality") (codes "DsdRoleSetCardinality")) (set_key ∷ []) (RoleSetCardinality kind)

-- ---- What is read

abbrev pub value_at : (kind : Kind) → List ℕ → Members → Reading (Value kind)
value_at a_name key fields = name_in key fields
value_at a_set key fields = names_in key fields
value_at a_whole key fields = whole_in key fields

abbrev pub values_in : (shape : Shape) → Members → Reading (Values shape)
values_in [] fields = Ok tt
values_in (place ∷ shape) fields = do
  value ← value_at place.1 place.0 fields
  values ← values_in shape fields
  Ok (value, values)

-- the values at these keys from left to right, where there is no other key but the command's name
abbrev pub whole_of : (shape : Shape) → Members → Reading (Values shape)
whole_of shape fields = do
  values ← values_in shape fields
  only_keys (codes "name" ∷ keys_of shape) fields
  Ok values

-- what a row makes of an object
abbrev pub of_row : {T : Type 0} → Row T → Members → Reading T
of_row told fields = do
  values ← whole_of told.shape fields
  Ok (made_of told.shape told.made values)

-- what the row of a word makes of an object, or where no row has this word, what the other reader does
abbrev pub by_row : {T : Type 0} → List (Row T) → (List ℕ → Members → Reading T) → List ℕ → Members → Reading T
by_row [] other word fields = other word fields
by_row (told ∷ rows) other word fields = if bytes_eq word told.word then of_row told fields else by_row rows other word fields

-- reviews of users, roles and sessions
abbrev pub review_rows : List (Row Review)
review_rows =
    assigned_users
    ∷ assigned_roles
    ∷ authorized_users
    ∷ authorized_roles
    ∷ role_permissions
    ∷ user_permissions
    ∷ session_roles
    ∷ session_permissions
    ∷ role_operations_on_object
    ∷ user_operations_on_object
    ∷ []

-- reviews of sets of separation
abbrev pub set_review_rows : List (Row Review)
set_review_rows =
    role_sets Static
    ∷ role_set_roles Static
    ∷ role_set_cardinality Static
    ∷ role_sets Dynamic
    ∷ role_set_roles Dynamic
    ∷ role_set_cardinality Dynamic
    ∷ []

-- a review of sets of separation, or no command that is known
unfoldable pub set_review : List ℕ → Members → Reading Review
set_review name fields = by_row set_review_rows unknown name fields

-- a review
unfoldable pub review_command : List ℕ → Members → Reading Command
review_command name fields = do
  review ← by_row review_rows set_review name fields
  Ok (ReviewCommand review)

-- the commands about sets of separation
abbrev pub separation_rows : List (Row Command)
separation_rows =
    create_set Static
    ∷ delete_set Static
    ∷ add_role_member Static
    ∷ delete_role_member Static
    ∷ set_cardinality Static
    ∷ create_set Dynamic
    ∷ delete_set Dynamic
    ∷ add_role_member Dynamic
    ∷ delete_role_member Dynamic
    ∷ set_cardinality Dynamic
    ∷ []

-- a command about sets of separation, or a review
unfoldable pub separation_command : List ℕ → Members → Reading Command
separation_command name fields = by_row separation_rows review_command name fields

-- the commands about sessions
abbrev pub session_rows : List (Row Command)
session_rows =
    create_session
    ∷ delete_session
    ∷ add_active_role
    ∷ drop_active_role
    ∷ check_access
    ∷ []

-- a command about sessions, or one of those that follow
unfoldable pub session_command : List ℕ → Members → Reading Command
session_command name fields = by_row session_rows separation_command name fields

-- the commands about the hierarchy
abbrev pub hierarchy_rows : List (Row Command)
hierarchy_rows =
    add_inheritance
    ∷ delete_inheritance
    ∷ add_ascendant
    ∷ add_descendant
    ∷ []

-- a command about the hierarchy, or one of those that follow
unfoldable pub hierarchy_command : List ℕ → Members → Reading Command
hierarchy_command name fields = by_row hierarchy_rows session_command name fields

-- the commands about users, roles and permissions
abbrev pub role_rows : List (Row Command)
role_rows =
    add_user
    ∷ delete_user
    ∷ add_role
    ∷ delete_role
    ∷ assign_user
    ∷ deassign_user
    ∷ grant_permission
    ∷ revoke_permission
    ∷ []

-- the command that an object stands for
abbrev pub command_of : Members → Reading Command
command_of fields = do
  name ← text_in (codes "name") fields
  by_row role_rows hierarchy_command name fields

-- ---- What is written

-- what stands at a key
pub data Field : Type 0 where
  one_name : Name → Field
  some_names : List Name → Field
  whole : ℕ → Field

abbrev pub Fields : Type 0
Fields = List (List ℕ × Field)

abbrev pub field_of : (kind : Kind) → Value kind → Field
field_of a_name name = one_name name
field_of a_set names = some_names names
field_of a_whole number = whole number

abbrev pub fields_of : (shape : Shape) → Values shape → Fields
fields_of [] values = []
fields_of (place ∷ shape) values = (place.0, field_of place.1 values.0) ∷ fields_of shape values.1

-- a word and the fields beside it
pub record Written : Type 0 where
  pub word : List ℕ
  pub fields : Fields

-- what a row's word and values are written as
abbrev pub as_row : {T : Type 0} (told : Row T) → Values told.shape → Written
as_row told values = record { word = told.word; fields = fields_of told.shape values }

abbrev pub review_written : Review → Written
review_written (AssignedUsers role) = as_row assigned_users (role, tt)
review_written (AssignedRoles user) = as_row assigned_roles (user, tt)
review_written (AuthorizedUsers role) = as_row authorized_users (role, tt)
review_written (AuthorizedRoles user) = as_row authorized_roles (user, tt)
review_written (RolePermissions role) = as_row role_permissions (role, tt)
review_written (UserPermissions user) = as_row user_permissions (user, tt)
review_written (SessionRoles session) = as_row session_roles (session, tt)
review_written (SessionPermissions session) = as_row session_permissions (session, tt)
review_written (RoleOperationsOnObject role object) = as_row role_operations_on_object (role, (object, tt))
review_written (UserOperationsOnObject user object) = as_row user_operations_on_object (user, (object, tt))
review_written (RoleSets kind) = as_row (role_sets kind) tt
review_written (RoleSetRoles kind set) = as_row (role_set_roles kind) (set, tt)
review_written (RoleSetCardinality kind set) = as_row (role_set_cardinality kind) (set, tt)

abbrev pub command_written : Command → Written
command_written (AddUser user) = as_row add_user (user, tt)
command_written (DeleteUser user) = as_row delete_user (user, tt)
command_written (AddRole role) = as_row add_role (role, tt)
command_written (DeleteRole role) = as_row delete_role (role, tt)
command_written (AssignUser user role) = as_row assign_user (user, (role, tt))
command_written (DeassignUser user role) = as_row deassign_user (user, (role, tt))
command_written (GrantPermission operation object role) = as_row grant_permission (operation, (object, (role, tt)))
command_written (RevokePermission operation object role) = as_row revoke_permission (operation, (object, (role, tt)))
command_written (AddInheritance ascendant descendant) = as_row add_inheritance (ascendant, (descendant, tt))
command_written (DeleteInheritance ascendant descendant) = as_row delete_inheritance (ascendant, (descendant, tt))
command_written (AddAscendant ascendant descendant) = as_row add_ascendant (ascendant, (descendant, tt))
command_written (AddDescendant ascendant descendant) = as_row add_descendant (ascendant, (descendant, tt))
command_written (CreateSet kind set roles n) = as_row (create_set kind) (set, (roles, (n, tt)))
command_written (DeleteSet kind set) = as_row (delete_set kind) (set, tt)
command_written (AddRoleMember kind set role) = as_row (add_role_member kind) (set, (role, tt))
command_written (DeleteRoleMember kind set role) = as_row (delete_role_member kind) (set, (role, tt))
command_written (SetCardinality kind set n) = as_row (set_cardinality kind) (set, (n, tt))
command_written (CreateSession user session roles) = as_row create_session (user, (session, (roles, tt)))
command_written (DeleteSession user session) = as_row delete_session (user, (session, tt))
command_written (AddActiveRole user session role) = as_row add_active_role (user, (session, (role, tt)))
command_written (DropActiveRole user session role) = as_row drop_active_role (user, (session, (role, tt)))
command_written (CheckAccess session operation object) = as_row check_access (session, (operation, (object, tt)))
command_written (ReviewCommand review) = review_written review

abbrev pub review_word : Review → List ℕ
review_word review = (review_written review).word

abbrev pub review_fields : Review → Fields
review_fields review = (review_written review).fields

-- the name of a command, and its fields from left to right
abbrev pub command_word : Command → List ℕ
command_word command = (command_written command).word

abbrev pub command_fields : Command → Fields
command_fields command = (command_written command).fields
