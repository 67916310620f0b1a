use Rattle.std.proofs.Common.{◌≡◌, take}
use Rattle.rbac_hierarchy.specs.Changes.{after}
use Rattle.rbac_hierarchy.proofs.laws.run_order.Given as goal

abbrev pub invariant-loop-change : goal.invariant-loop-change
invariant-loop-change g l = g.O.RoleOrder.content l.order ≡ after (take l.change-index l.changes) (g.O.RoleOrder.content l.fn.order)
