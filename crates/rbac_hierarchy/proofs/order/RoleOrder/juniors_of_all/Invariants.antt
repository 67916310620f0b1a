use Rattle.std.proofs.Common.{◌≡◌, take}
use Rattle.std.specs.List.{list_any}
use Rattle.sorted_keys.specs.Keys.{has}
use Rattle.rbac_terms.specs.Name.{Name, name_cmp}
use Rattle.rbac_terms.specs.Inheritance.{inherits}
use Rattle.rbac_hierarchy.proofs.order.RoleOrder.juniors_of_all.Given as goal

abbrev pub invariant-loop-role : goal.invariant-loop-role
invariant-loop-role g l = (r : Name) → has name_cmp r l.juniors ≡ list_any (λ role. inherits (g.Self.RoleOrder.content l.self).roles (g.Self.RoleOrder.content l.self).declared role r) (take l.role-index l.roles)
