-- A role hierarchy after changes (ANSI INCITS 359-2004, 6.1.1 and 6.2.1.1: AddRole, DeleteRole, AddInheritance, DeleteInheritance).
use Rattle.std.specs.Prelude.{List, not, ◌&&◌, if◌then◌else◌}
use Rattle.sorted_keys.specs.Keys.{has, with_key, without}
use Rattle.rbac_terms.specs.Inheritance.{inherits}
use Rattle.rbac_terms.specs.Name.{Name, name_cmp, pair_cmp}
use Rattle.rbac_terms.specs.Relations.{without_pairs_of}
use Rattle.rbac_hierarchy.specs.declared.change.Change.{Change}
use Rattle.rbac_hierarchy.specs.declared.change.Change.TheVariants.{AddRole, RemoveRole, Declare, Retract}
use Rattle.rbac_hierarchy.specs.declared.change.Step.{Step}
use Rattle.rbac_hierarchy.specs.declared.change.Step.TheVariants.{AddRole as RoleAdded, RemoveRole as RoleRemoved, Declare as PairDeclared, Retract as PairRetracted}
use Rattle.rbac_hierarchy.specs.Order.{Order}
use Rattle.staged.specs.Made.{made_all}

-- with a pair between two roles, unless its descendant inherits its ascendant
abbrev pub with_pair : Name → Name → Order → Order
with_pair a d h = if has name_cmp a h.roles && (has name_cmp d h.roles && not (inherits h.roles h.declared d a)) then record h { declared = with_key pair_cmp (a, d) h.declared } else h

-- what a change makes of the hierarchy
abbrev pub after_one : Change → Order → Order
after_one (AddRole role) h = record h { roles = with_key name_cmp role.now h.roles }
after_one (RemoveRole role) h = record h { roles = without name_cmp role.now h.roles; declared = without_pairs_of role.now h.declared }
after_one (Declare ascendant descendant) h = with_pair ascendant.now descendant.now h
after_one (Retract ascendant descendant) h = record h { declared = without pair_cmp (ascendant.now, descendant.now) h.declared }

-- the changes are made one after the other
abbrev pub after : List Change → Order → Order
after changes h = made_all after_one changes h

-- what a step makes of it
abbrev pub made : Step → Order → Order
made (RoleAdded role) h = record h { roles = with_key name_cmp role h.roles }
made (RoleRemoved role) h = record h { roles = without name_cmp role.now h.roles; declared = without_pairs_of role.now h.declared }
made (PairDeclared ascendant descendant) h = with_pair ascendant descendant h
made (PairRetracted ascendant descendant) h = record h { declared = without pair_cmp (ascendant.now, descendant.now) h.declared }
