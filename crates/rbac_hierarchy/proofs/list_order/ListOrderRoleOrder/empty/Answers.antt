use Rattle.rbac_hierarchy.proofs.RowLemmas.{no_rows}
use Rattle.rbac_hierarchy.proofs.list_order.ListOrderRoleOrder.empty.Goals as goal

pub invariant_of-result : goal.invariant_of-result
invariant_of-result c = rw (c.new.ensures, c.new-2.ensures) no_rows
