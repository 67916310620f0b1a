use Rattle.std.proofs.Common.{ap}
use Rattle.sorted_keys.proofs.Gathered.{sorted_set_of}
use Rattle.rbac_terms.proofs.NameLemmas.{names_total}
use Rattle.rbac_hierarchy.proofs.bit_order.BitOrderRoleOrder.invariants.Goals as goal

pub returns : goal.returns
returns c = rw (← ap (λ h. h.content) c.self.view_is) (record { in_order = sorted_set_of names_total c.self.inside.numbers.keys })
