use Rattle.std.proofs.Common.{ap, sym, ◌∙◌}
use Rattle.rbac_hierarchy.proofs.RangeLemmas.{ranges_without}
use Rattle.rbac_hierarchy.proofs.RowLemmas.{role_taken}
use Rattle.rbac_hierarchy.proofs.list_order.ListOrderRoleOrder.remove_role.Goals as goal

pub replace_pairs-requires : goal.replace_pairs-requires
replace_pairs-requires c = rw (← ap (λ h. h.content) c.self.view_is, c.retain.ensures.content, c.in_ok-declared.ensures) (ranges_without _ _ c.args.role.now c.self.invariant.ranges).0

pub invariant_of-self : goal.invariant_of-self
invariant_of-self c =
    let replaced = ap (λ h. h.content) c.self-2.view_is ∙ c.in_ok-replace_pairs.ensures.replaced in
    let same_roles = ap (λ h. h.roles) replaced ∙ sym (ap (λ h. h.content.roles) c.self.view_is) in
    let pairs = ap (λ h. h.declared) replaced ∙ rw c.in_ok-declared.ensures at c.retain.ensures.content in
    (role_taken c.args.role.now _ _ _ _ _ c.self.invariant c.self-2.invariant same_roles pairs c.remove.ensures.content).0

pub returns-clause-removed : goal.returns-clause-removed
returns-clause-removed c =
    let replaced = ap (λ h. h.content) c.self-2.view_is ∙ c.in_ok-replace_pairs.ensures.replaced in
    let same_roles = ap (λ h. h.roles) replaced ∙ sym (ap (λ h. h.content.roles) c.self.view_is) in
    let pairs = ap (λ h. h.declared) replaced ∙ rw c.in_ok-declared.ensures at c.retain.ensures.content in
    let roles = (role_taken c.args.role.now _ _ _ _ _ c.self.invariant c.self-2.invariant same_roles pairs c.remove.ensures.content).1 in
    rw (← ap (λ h. h.content) c.self.view_is) (λ i. record { roles = roles i; declared = pairs i })
