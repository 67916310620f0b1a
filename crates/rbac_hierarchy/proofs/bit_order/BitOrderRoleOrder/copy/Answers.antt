use Rattle.std.proofs.Common.{◌≡◌, length, ap}
use Rattle.std.specs.List.{each_same}
use Rattle.bit_rows.specs.Bits.{bit}
use Rattle.rbac_hierarchy.specs.Numbers.{roles_of}
use Rattle.rbac_hierarchy.proofs.ExactLemmas.{exact_same}
use Rattle.rbac_hierarchy.proofs.bit_order.BitOrderRoleOrder.copy.Goals as goal

same_names : (c : goal.After-new) → c.in_ok-clone.field-0.keys ≡ c.self.inside.numbers.keys
same_names c = each_same c.self.inside.numbers.keys c.in_ok-clone.field-0.keys c.in_ok-clone.ensures.cases

pub invariant_of-result : goal.invariant_of-result
invariant_of-result c =
    let inside = c.self.inside in
    let rows = c.in_ok-copy-2.ensures in
    rw (same_names c, c.in_ok-copy.ensures)
    (exact_same inside.numbers.keys inside.declared.content inside.inherited c.in_ok-copy-2.field-0 c.self.invariant (ap length rows) (λ i j. ap (λ rows. bit rows i j) rows))

pub returns : goal.returns
returns c = rw (← ap (λ h. h.content) c.self.view_is) (λ i. record { roles = roles_of (same_names c i); declared = c.in_ok-copy.ensures i })
