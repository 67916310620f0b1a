use Rattle.std.proofs.Common.{◌&&◌, refl, ap, sym, ◌∙◌}
use Rattle.std.proofs.lemmas.List.Kept.{IsStrictlySortedBy-filter}
use Rattle.sorted_keys.proofs.Gathered.{sorted_set_of}
use Rattle.sorted_keys.proofs.Members.{has-filter, same_keys}
use Rattle.rbac_terms.specs.Name.{name_cmp}
use Rattle.rbac_terms.proofs.NameLemmas.{names_total, names_exact}
use Rattle.rbac_hierarchy.specs.Numbers.{roles_of}
use Rattle.rbac_hierarchy.proofs.NumberLemmas.{has_role}
use Rattle.rbac_hierarchy.proofs.bit_order.BitOrderRoleOrder.roles_where.Goals as goal

pub returns : goal.returns
returns g c =
    let names = c.self.inside.numbers.keys in
    let p = g.T.KeyTest.passes c.args.test.now in
    let told = (rw (c.as_slice.ensures.keys, c.new-none.ensures) at c.in_ok-roles.ensures) p (λ i lt. refl) in
    rw (← ap (λ h. h.content) c.self.view_is)
    (same_keys names_exact names_total c.in_ok-roles.roles _ c.names-in_order.ensures.in_order (IsStrictlySortedBy-filter name_cmp p (roles_of names) (sorted_set_of names_total names))
    (λ r. told r ∙ ap (λ b. p r && b) (sym (has_role names r)) ∙ sym (has-filter names_exact p (roles_of names) r)))
