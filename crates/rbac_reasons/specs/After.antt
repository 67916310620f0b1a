-- What a command would make of the set of separation that it is about, and the roles that it would give.
use Rattle.std.specs.Prelude.{List, [], ◌∷◌, Option, Some}
use Rattle.std.specs.Option.{option_map}
use Rattle.rbac_terms.specs.Name.{Name}
use Rattle.rbac_terms.specs.Separation.{RoleSet}
use Rattle.rbac_terms.specs.State.{State}
use Rattle.rbac_terms.specs.Inheritance.{juniors}
use Rattle.rbac_terms.specs.Change.{with_member, without_member, with_cardinality}
use Rattle.rbac_terms.specs.declared.command.Command.{Command}
use Rattle.rbac_terms.specs.declared.command.Command.TheVariants.{AssignUser, AddInheritance, CreateSet, AddRoleMember, DeleteRoleMember, SetCardinality, CreateSession, AddActiveRole}

-- the set with one role more or fewer, or with another number
abbrev pub changed : Command → RoleSet → RoleSet
changed (AddRoleMember kind set role) x = with_member role x
changed (DeleteRoleMember kind set role) x = without_member role x
changed (SetCardinality kind set n) x = with_cardinality n x
changed c x = x

-- the set that is created, or the one that is found, changed
abbrev pub changed_set : Command → Option RoleSet → Option RoleSet
changed_set (CreateSet kind set roles n) found = Some (record { roles = roles; cardinality = n })
changed_set c found = option_map (changed c) found

-- the roles that a user would be authorized for, or that would be active in a session, besides
abbrev pub gained : Command → State → List Name
gained (AssignUser user role) s = juniors s.roles s.declared role
gained (AddInheritance ascendant descendant) s = juniors s.roles s.declared descendant
gained (CreateSession user session roles) s = roles
gained (AddActiveRole user session role) s = role ∷ []
gained c s = []
