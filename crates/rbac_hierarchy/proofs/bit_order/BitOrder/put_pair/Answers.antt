use Rattle.std.proofs.Common.{◌≤◌, ◌+◌, length, ap, sym, ◌∙◌, arith}
use Rattle.rbac_terms.specs.Name.{pair_cmp}
use Rattle.rbac_hierarchy.proofs.ExactLemmas.{exact_declared}
use Rattle.rbac_hierarchy.proofs.NumberLemmas.{has_role}
use Rattle.rbac_hierarchy.proofs.RangeLemmas.{ranges_more}
use Rattle.rbac_hierarchy.proofs.RoomLemmas.{one_longer}
use Rattle.rbac_hierarchy.proofs.bit_order.BitOrder.put_pair.Goals as goal

pub number-above-requires : goal.number-above-requires
number-above-requires c = sym (has_role c.self.inside.numbers.keys c.args.pair.0) ∙ rw (← ap (λ h. h.content) c.self.view_is) at c.requires.ascendant

pub number-below-requires : goal.number-below-requires
number-below-requires c = sym (has_role c.self.inside.numbers.keys c.args.pair.1) ∙ rw (← ap (λ h. h.content) c.self.view_is) at c.requires.descendant

pub invariant_of-self : goal.invariant_of-self
invariant_of-self c =
    let inside = c.self.inside in
    let is_a = rw (← ap (λ h. h.content) c.self.view_is) at c.requires.ascendant in
    let is_d = rw (← ap (λ h. h.content) c.self.view_is) at c.requires.descendant in
    let more = c.put.ensures.content in
    exact_declared inside.numbers.keys inside.declared.content c.put.new.self.content inside.inherited c.join_above.new.self _ _ c.args.pair.0 c.args.pair.1 c.self.invariant
    c.number-above.ensures.in_range c.number-above.ensures.role c.number-below.ensures.in_range c.number-below.ensures.role
    is_a is_d (ranges_more _ _ _ _ _ c.self.invariant.ranges is_a is_d more) more c.join_above.ensures.count c.join_above.ensures.related

pub returns-clause-room : goal.returns-clause-room
returns-clause-room c =
    let declared = c.self.inside.declared.content in
    let longer : length c.put.new.self.content ≤ length declared + 1 = rw c.put.ensures.content (one_longer pair_cmp _ declared) in
    rw (← ap (λ h. h.room) c.self.view_is) (omega (arith, longer, c.put.ensures.room, c.join_above.ensures.room))
