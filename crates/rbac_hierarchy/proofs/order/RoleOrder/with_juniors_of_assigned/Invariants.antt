use Rattle.std.proofs.Common.{◌≡◌, ◌||◌, take}
use Rattle.std.specs.List.{list_any}
use Rattle.sorted_keys.specs.Keys.{has}
use Rattle.rbac_terms.specs.Name.{Name, name_cmp}
use Rattle.rbac_terms.specs.Inheritance.{inherits}
use Rattle.rbac_hierarchy.proofs.order.RoleOrder.with_juniors_of_assigned.Given as goal

abbrev pub invariant-loop-pair : goal.invariant-loop-pair
invariant-loop-pair g l = (r : Name) → has name_cmp r l.more ≡ (has name_cmp r l.fn.names
    || list_any (λ (pair : Name × Name). inherits (g.Self.RoleOrder.content l.self).roles (g.Self.RoleOrder.content l.self).declared pair.1 r) (take l.pair-index l.assignments))
