use Rattle.std.proofs.Common.{◌≡◌, ◌≤◌, ◌+◌, Bool, true, false, cond, ◌&&◌, List, length, refl, ap, sym, ◌∙◌, arith}
use Rattle.sorted_keys.specs.Keys.{has}
use Rattle.rbac_terms.specs.Name.{Name, name_cmp, pair_cmp}
use Rattle.rbac_hierarchy.specs.Numbers.{roles_of}
use Rattle.rbac_hierarchy.specs.Order.{Order}
use Rattle.rbac_hierarchy.proofs.ExactLemmas.{told_by_bit, exact_declared}
use Rattle.rbac_hierarchy.proofs.NumberLemmas.{has_role, is_role}
use Rattle.rbac_hierarchy.proofs.RangeLemmas.{ranges_more}
use Rattle.rbac_hierarchy.proofs.RoomLemmas.{one_longer}
use Rattle.rbac_hierarchy.proofs.bit_order.BitOrder.put_acyclic_pair.Goals as goal

left_as_is : (b : Bool) (more h : Order) → h ≡ cond (b && false) more h
left_as_is true more h = refl
left_as_is false more h = refl

pub returns-in_default-clause-content : goal.returns-in_default-clause-content
returns-in_default-clause-content c =
    let absent = has_role c.self.inside.numbers.keys c.args.pair.0 ∙ c.in_default.ensures.absent in
    rw (← ap (λ h. h.content) c.self.view_is) (rw absent refl)

pub returns-in_default-number_of-clause-content : goal.returns-in_default-number_of-clause-content
returns-in_default-number_of-clause-content c =
    let names = c.self.inside.numbers.keys in
    let absent = has_role names c.args.pair.1 ∙ c.in_default-number_of.ensures.absent in
    rw (← ap (λ h. h.content) c.self.view_is) (rw absent (left_as_is (has name_cmp c.args.pair.0 (roles_of names)) _ _))

pub returns-then-has-clause-content : goal.returns-then-has-clause-content
returns-then-has-clause-content c =
    let inside = c.self.inside in
    let names = inside.numbers.keys in
    let above = c.in-Some.ensures.numbered in
    let below = c.in-Some-number_of.ensures.numbered in
    let is_ascendant = ap (λ r. has name_cmp r (roles_of names)) (sym above.1) ∙ is_role names c.in-Some.above above.0 in
    let is_descendant = ap (λ r. has name_cmp r (roles_of names)) (sym below.1) ∙ is_role names c.in-Some-number_of.below below.0 in
    let told = told_by_bit names inside.declared.content inside.inherited c.self.invariant _ _ _ _ below.0 below.1 above.0 above.1 in
    rw (← ap (λ h. h.content) c.self.view_is) (rw (is_ascendant, is_descendant, sym told ∙ sym c.has.ensures ∙ c.if-has.true) refl)

pub invariant_of-self : goal.invariant_of-self
invariant_of-self c =
    let inside = c.self.inside in
    let names = inside.numbers.keys in
    let above = c.in-Some.ensures.numbered in
    let below = c.in-Some-number_of.ensures.numbered in
    let is_ascendant = ap (λ r. has name_cmp r (roles_of names)) (sym above.1) ∙ is_role names c.in-Some.above above.0 in
    let is_descendant = ap (λ r. has name_cmp r (roles_of names)) (sym below.1) ∙ is_role names c.in-Some-number_of.below below.0 in
    let more = c.put.ensures.content in
    exact_declared names inside.declared.content c.put.new.self.content inside.inherited c.join_above.new.self _ _ c.args.pair.0 c.args.pair.1 c.self.invariant
    above.0 above.1 below.0 below.1
    is_ascendant is_descendant (ranges_more _ _ _ _ _ c.self.invariant.ranges is_ascendant is_descendant more) more c.join_above.ensures.count c.join_above.ensures.related

pub returns-clause-content : goal.returns-clause-content
returns-clause-content c =
    let inside = c.self.inside in
    let names = inside.numbers.keys in
    let above = c.in-Some.ensures.numbered in
    let below = c.in-Some-number_of.ensures.numbered in
    let is_ascendant = ap (λ r. has name_cmp r (roles_of names)) (sym above.1) ∙ is_role names c.in-Some.above above.0 in
    let is_descendant = ap (λ r. has name_cmp r (roles_of names)) (sym below.1) ∙ is_role names c.in-Some-number_of.below below.0 in
    let told = told_by_bit names inside.declared.content inside.inherited c.self.invariant _ _ _ _ below.0 below.1 above.0 above.1 in
    rw (← ap (λ h. h.content) c.self.view_is) (rw (is_ascendant, is_descendant, sym told ∙ sym c.has.ensures ∙ c.if-has.false)
    (ap (λ (declared : List (Name × Name)). let h : Order = record { roles = roles_of names; declared = declared } in h) c.put.ensures.content))

pub returns-clause-room : goal.returns-clause-room
returns-clause-room c =
    let declared = c.self.inside.declared.content in
    let longer : length c.put.new.self.content ≤ length declared + 1 = rw c.put.ensures.content (one_longer pair_cmp _ declared) in
    rw (← ap (λ h. h.room) c.self.view_is) (omega (arith, longer, c.put.ensures.room, c.join_above.ensures.room))
