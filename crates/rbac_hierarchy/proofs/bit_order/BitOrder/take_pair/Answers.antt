use Rattle.std.proofs.Common.{◌≤◌, length, arith, ap, sym, ◌∙◌, subst}
use Rattle.rbac_terms.specs.Name.{pair_cmp}
use Rattle.sorted_keys.specs.Keys.{without}
use Rattle.rbac_hierarchy.specs.Numbers.{roles_of, IsExact}
use Rattle.rbac_hierarchy.proofs.ExactLemmas.{exact_renewed}
use Rattle.rbac_hierarchy.proofs.NumberLemmas.{has_role}
use Rattle.rbac_hierarchy.proofs.PairLemmas.{all_but_one_absent, fewer, still_but_one}
use Rattle.sorted_keys.proofs.Kept.{fewer as not_longer}
use Rattle.rbac_hierarchy.proofs.bit_order.BitOrder.take_pair.Goals as goal

pub returns-in_default-clause-content : goal.returns-in_default-clause-content
returns-in_default-clause-content c =
    let inside = c.self.inside in
    let absent = has_role inside.numbers.keys c.args.ascendant.now ∙ c.in_default.ensures.absent in
    let same = all_but_one_absent (roles_of inside.numbers.keys) inside.declared.content c.self.invariant.ranges c.args.ascendant.now c.args.descendant.now absent in
    rw (← ap (λ h. h.content) c.self.view_is) (λ i. record { roles = roles_of inside.numbers.keys; declared = sym same i })

pub invariant_of-self : goal.invariant_of-self
invariant_of-self c =
    let inside = c.self.inside in
    let names = inside.numbers.keys in
    let found = c.in-Some.ensures.numbered in
    let a = c.args.ascendant.now in
    let kept = without pair_cmp (a, c.args.descendant.now) inside.declared.content in
    subst (λ pairs. IsExact names pairs c.renew.new.inherited) (sym c.remove.ensures.content)
    (exact_renewed names inside.declared.content kept inside.inherited c.renew.new.inherited c.in-Some.above a c.gather_pairs_above.new.pairs.items c.self.invariant found.0 found.1
    (fewer inside.declared.content _) (still_but_one (roles_of names) inside.declared.content c.self.invariant.ranges a c.args.descendant.now) c.gather_pairs_above.ensures.pairs (rw c.deref.ensures.value at c.renew.ensures.renewed))

pub returns-clause-room : goal.returns-clause-room
returns-clause-room c =
    let declared = c.self.inside.declared.content in
    let shorter : length c.remove.new.self.content ≤ length declared = rw c.remove.ensures.content (not_longer _ declared (length declared) (omega arith)) in
    rw (← ap (λ h. h.room) c.self.view_is) (omega (arith, shorter, c.remove.ensures.room, c.renew.ensures.room, c.gather_pairs_above.ensures.capacity))
