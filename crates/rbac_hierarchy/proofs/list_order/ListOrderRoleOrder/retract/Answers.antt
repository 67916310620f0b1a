use Rattle.std.proofs.Common.{ap}
use Rattle.rbac_hierarchy.proofs.RangeLemmas.{ranges_less}
use Rattle.rbac_hierarchy.proofs.list_order.ListOrderRoleOrder.retract.Goals as goal

pub replace_pairs-requires : goal.replace_pairs-requires
replace_pairs-requires c = rw (← ap (λ h. h.content) c.self.view_is) (ranges_less _ _ _ _ c.self.invariant.ranges (rw c.in_ok-declared.ensures at c.remove.ensures.content))
