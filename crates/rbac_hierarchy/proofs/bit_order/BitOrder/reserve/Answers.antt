use Rattle.rbac_hierarchy.proofs.ExactLemmas.{exact_same}
use Rattle.rbac_hierarchy.proofs.bit_order.BitOrder.reserve.Goals as goal

pub invariant_of-self-2 : goal.invariant_of-self-2
invariant_of-self-2 c =
    let inside = c.self.inside in
    rw (c.in_ok-reserve-3.ensures.keys, c.in_ok-reserve-2.ensures.content)
    (exact_same inside.numbers.keys inside.declared.content inside.inherited c.reserve-4.new.self c.self.invariant c.reserve-4.ensures.count c.reserve-4.ensures.relation)
