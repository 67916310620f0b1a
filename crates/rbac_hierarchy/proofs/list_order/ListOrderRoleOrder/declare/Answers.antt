use Rattle.std.proofs.Common.{ap}
use Rattle.rbac_hierarchy.proofs.RangeLemmas.{ranges_more}
use Rattle.rbac_hierarchy.proofs.list_order.ListOrderRoleOrder.declare.Goals as goal

pub replace_pairs-requires : goal.replace_pairs-requires
replace_pairs-requires c =
    let more = rw (c.in_ok-first.ensures, c.in_ok-second.ensures, c.in_ok-declared.ensures) at c.in_ok-insert.ensures.added in
    rw (← ap (λ h. h.content) c.self.view_is) (ranges_more _ _ _ _ _ c.self.invariant.ranges (rw (← ap (λ h. h.content) c.self.view_is) at c.requires.ascendant) (rw (← ap (λ h. h.content) c.self.view_is) at c.requires.descendant) more)
