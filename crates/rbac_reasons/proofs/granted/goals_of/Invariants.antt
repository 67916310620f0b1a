use Rattle.std.proofs.Common.{◌≡◌, take}
use Rattle.sorted_keys.specs.Keys.{has}
use Rattle.rbac_terms.specs.Name.{Name, name_cmp}
use Rattle.rbac_reasons.proofs.granted.goals_of.Given as goal

abbrev pub invariant-loop-role : goal.invariant-loop-role
invariant-loop-role l = (name : Name) → has name_cmp name l.goals ≡ has name_cmp name (take l.role-index l.roles)
