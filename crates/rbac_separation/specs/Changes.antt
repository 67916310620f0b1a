-- What changes that may want memory make of sets of roles, and of the numbers that are kept of them
-- (ANSI INCITS 359-2004, 6.3.1 and 6.4.1: CreateSsdSet, AddSsdRoleMember, CreateDsdSet, AddDsdRoleMember).
use Rattle.std.specs.Prelude.{List, Option, Some}
use Rattle.std.specs.Option.{option_map}
use Rattle.std.specs.FinMap.Entries.{put}
use Rattle.sorted_keys.specs.Keys.{updated}
use Rattle.rbac_terms.specs.Name.{Name, name_cmp}
use Rattle.rbac_terms.specs.Separation.{RoleSet}
use Rattle.rbac_terms.specs.Change.{with_member}
use Rattle.rbac_separation.specs.declared.set_plan.SetChange.{SetChange}
use Rattle.rbac_separation.specs.declared.set_plan.SetChange.TheVariants.{Create, AddMember}

-- a set that is made, and a role that is put into a set that is there
abbrev pub changed : SetChange → List (Name × RoleSet) → List (Name × RoleSet)
changed (Create set roles cardinality) es = put name_cmp set.now (record { roles = roles.now; cardinality = cardinality }) es
changed (AddMember set role) es = updated name_cmp set.now (with_member role.now) es

-- the name of the set that a change is about, and what becomes of the set there
abbrev pub set_of_change : SetChange → Name
set_of_change (Create set roles cardinality) = set.now
set_of_change (AddMember set role) = set.now

abbrev pub becomes : SetChange → Option RoleSet → Option RoleSet
becomes (Create set roles cardinality) found = Some (record { roles = roles.now; cardinality = cardinality })
becomes (AddMember set role) found = option_map (with_member role.now) found
