use Rattle.std.proofs.Common.{◌≡◌, true, false, ap, sym, ◌∙◌}
use Rattle.sorted_keys.specs.Keys.{has}
use Rattle.rbac_terms.specs.Name.{name_cmp}
use Rattle.rbac_terms.proofs.NameLemmas.{names_total, names_exact}
use Rattle.rbac_hierarchy.specs.Rows.{roles_in}
use Rattle.rbac_hierarchy.proofs.EntryLemmas.{found_among, with_key_there}
use Rattle.rbac_hierarchy.proofs.RowLemmas.{role_put, same_order}
use Rattle.rbac_hierarchy.proofs.list_order.ListOrderRoleOrder.add_role.Goals as goal

pub returns-then-contains-clause-added : goal.returns-then-contains-clause-added
returns-then-contains-clause-added c =
    let there : has name_cmp c.args.role.now (roles_in c.self.inside.juniors.content) ≡ true = sym (found_among name_cmp c.args.role.now c.self.inside.juniors.content) ∙ sym c.contains.ensures ∙ c.if-contains.true in
    let same = with_key_there names_total names_exact _ _ c.self.invariant.in_order there in
    rw (← ap (λ h. h.content) c.self.view_is) (λ i. record { roles = sym same i; declared = c.self.inside.declared.content })

pub invariant_of-self : goal.invariant_of-self
invariant_of-self c =
    let absent : has name_cmp c.args.role.now (roles_in c.self.inside.juniors.content) ≡ false = sym (found_among name_cmp c.args.role.now c.self.inside.juniors.content) ∙ sym c.contains.ensures ∙ c.if-contains.false in
    (role_put _ _ _ _ _ c.self.invariant absent (rw (c.in_ok-role.ensures, c.in_ok-names.ensures) at c.insert.ensures.put) c.insert.ensures.unchanged).0

pub returns-clause-added : goal.returns-clause-added
returns-clause-added c =
    let absent : has name_cmp c.args.role.now (roles_in c.self.inside.juniors.content) ≡ false = sym (found_among name_cmp c.args.role.now c.self.inside.juniors.content) ∙ sym c.contains.ensures ∙ c.if-contains.false in
    let put = (role_put _ _ _ _ _ c.self.invariant absent (rw (c.in_ok-role.ensures, c.in_ok-names.ensures) at c.insert.ensures.put) c.insert.ensures.unchanged).1 in
    rw (← ap (λ h. h.content) c.self.view_is) (same_order _ _ _ _ put)
