-- The object of a command stands for that command.
use Rattle.std.proofs.Common.{◌≡◌, ◌^◌, List, [], ◌∷◌, Some, option_map, Ok, refl, ap}
use Rattle.std.proofs.lemmas.Bool.{lt-ltb}
use Rattle.sorted_keys.proofs.Gathered.{set_of-sorted}
use Rattle.rbac_terms.specs.Name.{Name}
use Rattle.rbac_terms.proofs.NameLemmas.{names_total}
use Rattle.rbac_terms.specs.declared.separation.Separation.TheVariants.{Static, Dynamic}
use Rattle.rbac_terms.specs.declared.review.Review.TheVariants.{AssignedUsers, AssignedRoles, AuthorizedUsers, AuthorizedRoles, RolePermissions, UserPermissions, SessionRoles, SessionPermissions, RoleOperationsOnObject, UserOperationsOnObject, RoleSets, RoleSetRoles, RoleSetCardinality}
use Rattle.rbac_terms.specs.declared.command.Command.{Command}
use Rattle.rbac_terms.specs.declared.command.Command.TheVariants.{AddUser, DeleteUser, AddRole, DeleteRole, AssignUser, DeassignUser, GrantPermission, RevokePermission, AddInheritance, DeleteInheritance, AddAscendant, AddDescendant, CreateSet, DeleteSet, AddRoleMember, DeleteRoleMember, SetCardinality, CreateSession, DeleteSession, AddActiveRole, DropActiveRole, CheckAccess, Review as ReviewCommand}
use Rattle.rbac_text.specs.Fields.{texts_of}
use Rattle.rbac_text.specs.Command.{command_of, hierarchy_command, session_command, separation_command, review_command, set_review}
use Rattle.rbac_text.specs.Command.{command_fields}
use Rattle.rbac_text.specs.CommandText.{AreFields}
use Rattle.rbac_text.specs.CommandObject.{items_of, command_object}

texts_back : (names : List Name) → texts_of (items_of names) ≡ Some names
texts_back [] = refl
texts_back (name ∷ names) = ap (λ o. option_map (λ texts. name ∷ texts) o) (texts_back names)

-- the object of a command stands for it
pub command_back : (c : Command) → AreFields (command_fields c) → command_of (command_object c) ≡ Ok c
unfolding hierarchy_command session_command separation_command review_command set_review
command_back (AddUser user) h = rw h.0
command_back (DeleteUser user) h = rw h.0
command_back (AddRole role) h = rw h.0
command_back (DeleteRole role) h = rw h.0
command_back (AssignUser user role) h = rw (h.0, h.1.0)
command_back (DeassignUser user role) h = rw (h.0, h.1.0)
command_back (GrantPermission operation object role) h = rw (h.0, h.1.0, h.1.1.0)
command_back (RevokePermission operation object role) h = rw (h.0, h.1.0, h.1.1.0)
command_back (AddInheritance ascendant descendant) h = rw (h.0, h.1.0)
command_back (DeleteInheritance ascendant descendant) h = rw (h.0, h.1.0)
command_back (AddAscendant ascendant descendant) h = rw (h.0, h.1.0)
command_back (AddDescendant ascendant descendant) h = rw (h.0, h.1.0)
command_back (CreateSet Static set roles n) h = rw (h.0, texts_back roles, h.1.0.0, set_of-sorted names_total roles h.1.0.1, lt-ltb n (2 ^ 32) h.1.1.0)
command_back (CreateSet Dynamic set roles n) h = rw (h.0, texts_back roles, h.1.0.0, set_of-sorted names_total roles h.1.0.1, lt-ltb n (2 ^ 32) h.1.1.0)
command_back (DeleteSet Static set) h = rw h.0
command_back (DeleteSet Dynamic set) h = rw h.0
command_back (AddRoleMember Static set role) h = rw (h.0, h.1.0)
command_back (AddRoleMember Dynamic set role) h = rw (h.0, h.1.0)
command_back (DeleteRoleMember Static set role) h = rw (h.0, h.1.0)
command_back (DeleteRoleMember Dynamic set role) h = rw (h.0, h.1.0)
command_back (SetCardinality Static set n) h = rw (h.0, lt-ltb n (2 ^ 32) h.1.0)
command_back (SetCardinality Dynamic set n) h = rw (h.0, lt-ltb n (2 ^ 32) h.1.0)
command_back (CreateSession user session roles) h = rw (h.0, h.1.0, texts_back roles, h.1.1.0.0, set_of-sorted names_total roles h.1.1.0.1)
command_back (DeleteSession user session) h = rw (h.0, h.1.0)
command_back (AddActiveRole user session role) h = rw (h.0, h.1.0, h.1.1.0)
command_back (DropActiveRole user session role) h = rw (h.0, h.1.0, h.1.1.0)
command_back (CheckAccess session operation object) h = rw (h.0, h.1.0, h.1.1.0)
command_back (ReviewCommand (AssignedUsers role)) h = rw h.0
command_back (ReviewCommand (AssignedRoles user)) h = rw h.0
command_back (ReviewCommand (AuthorizedUsers role)) h = rw h.0
command_back (ReviewCommand (AuthorizedRoles user)) h = rw h.0
command_back (ReviewCommand (RolePermissions role)) h = rw h.0
command_back (ReviewCommand (UserPermissions user)) h = rw h.0
command_back (ReviewCommand (SessionRoles session)) h = rw h.0
command_back (ReviewCommand (SessionPermissions session)) h = rw h.0
command_back (ReviewCommand (RoleOperationsOnObject role object)) h = rw (h.0, h.1.0)
command_back (ReviewCommand (UserOperationsOnObject user object)) h = rw (h.0, h.1.0)
command_back (ReviewCommand (RoleSets Static)) h = refl
command_back (ReviewCommand (RoleSets Dynamic)) h = refl
command_back (ReviewCommand (RoleSetRoles Static set)) h = rw h.0
command_back (ReviewCommand (RoleSetRoles Dynamic set)) h = rw h.0
command_back (ReviewCommand (RoleSetCardinality Static set)) h = rw h.0
command_back (ReviewCommand (RoleSetCardinality Dynamic set)) h = rw h.0
