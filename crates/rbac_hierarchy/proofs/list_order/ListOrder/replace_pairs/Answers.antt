use Rattle.std.proofs.Common.{ap}
use Rattle.rbac_hierarchy.proofs.RowLemmas.{rows_renewed}
use Rattle.rbac_hierarchy.proofs.list_order.ListOrder.replace_pairs.Goals as goal

pub invariant_of-self : goal.invariant_of-self
invariant_of-self c = (rows_renewed _ _ _ c.self.invariant.in_order (rw (← ap (λ h. h.content) c.self.view_is) at c.requires) c.in_ok-juniors.ensures).0

pub returns-clause-replaced : goal.returns-clause-replaced
returns-clause-replaced c =
    let roles = (rows_renewed _ _ _ c.self.invariant.in_order (rw (← ap (λ h. h.content) c.self.view_is) at c.requires) c.in_ok-juniors.ensures).1 in
    rw (← ap (λ h. h.content) c.self.view_is) (λ i. record { roles = roles i; declared = c.args.declared.content })
