use Rattle.std.proofs.Common.{ap}
use Rattle.rbac_hierarchy.proofs.JuniorLemmas.{told}
use Rattle.rbac_hierarchy.proofs.RowLemmas.{row_tells, none_found}
use Rattle.rbac_hierarchy.proofs.list_order.ListOrderRoleOrder.inherits.Goals as goal

pub returns-in-Some-clause-test : goal.returns-in-Some-clause-test
returns-in-Some-clause-test c = rw (← ap (λ h. h.content) c.self.view_is) (row_tells _ _ c.self.invariant _ _ _ _ c.in-Some.ensures c.contains.ensures)

pub returns-in-Some-clause-definition : goal.returns-in-Some-clause-definition
returns-in-Some-clause-definition c = told _ _ _ _ _ (returns-in-Some-clause-test c)

pub returns-in-None-clause-test : goal.returns-in-None-clause-test
returns-in-None-clause-test c = rw (← ap (λ h. h.content) c.self.view_is) (none_found _ _ c.self.invariant _ _ c.in-None.ensures)

pub returns-in-None-clause-definition : goal.returns-in-None-clause-definition
returns-in-None-clause-definition c = told _ _ _ _ _ (returns-in-None-clause-test c)
