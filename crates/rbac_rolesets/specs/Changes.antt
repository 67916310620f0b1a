-- What changes that may want memory make of users, roles, UA and PA (ANSI INCITS 359-2004, 6.1.1: AddUser, AddRole, AssignUser,
-- GrantPermission).
use Rattle.sorted_keys.specs.Keys.{with_key}
use Rattle.hashed_keys.specs.Pairs.{replaced}
use Rattle.rbac_terms.specs.Name.{name_cmp, pair_cmp, grant_cmp}
use Rattle.rbac_rolesets.specs.Sets.{Sets}
use Rattle.rbac_rolesets.specs.declared.change.Change.{Change}
use Rattle.rbac_rolesets.specs.declared.change.Change.TheVariants.{AddUser, AddRole, Assign, Grant}
use Rattle.rbac_rolesets.specs.declared.change.Step.{Step}
use Rattle.rbac_rolesets.specs.declared.change.Step.TheVariants.{AddUser as UserAdded, AddRole as RoleAdded, Assign as RoleAssigned, Grant as PermissionGranted}

-- what a change makes of the sets
abbrev pub changed : Change → Sets → Sets
changed (AddUser user) s = record s { users = with_key name_cmp user.now s.users }
changed (AddRole role) s = record s { roles = with_key name_cmp role.now s.roles }
changed (Assign user role) s = record s { assigned = with_key pair_cmp (user.now, role.now) s.assigned }
changed (Grant operation object role) s = record s { granted = with_key grant_cmp ((operation.now, object.now), role.now) s.granted }

-- what a step, with names of its own, makes of them
abbrev pub made : Step → Sets → Sets
made (UserAdded user) s = record s { users = with_key name_cmp user s.users }
made (RoleAdded role) s = record s { roles = with_key name_cmp role s.roles }
made (RoleAssigned user role) s = record s { assigned = with_key pair_cmp (user, role) s.assigned }
made (PermissionGranted permission roles) s = record s { granted = replaced pair_cmp name_cmp permission roles s.granted }
