use Rattle.std.proofs.Common.{◌||◌, ap, sym, ◌∙◌}
use Rattle.std.proofs.lemmas.List.Kept.{IsStrictlySortedBy-filter}
use Rattle.sorted_keys.specs.Keys.{has}
use Rattle.sorted_keys.proofs.Members.{same_keys}
use Rattle.rbac_terms.specs.Inheritance.{inherits, juniors}
use Rattle.rbac_terms.specs.Name.{name_cmp}
use Rattle.rbac_terms.proofs.NameLemmas.{names_total, names_exact}
use Rattle.rbac_hierarchy.proofs.JuniorLemmas.{has_juniors}
use Rattle.rbac_hierarchy.proofs.order.RoleOrder.juniors.Goals as goal

pub returns : goal.returns
returns g c =
    let h = g.Self.RoleOrder.content c.args.self.now in
    let role = c.args.role.now in
    same_keys names_exact names_total c.in_ok-juniors.juniors (juniors h.roles h.declared role) c.names-in_order.ensures.in_order
    (IsStrictlySortedBy-filter _ _ _ c.invariants.ensures.in_order)
    (λ q. c.in_ok-juniors.ensures q ∙ ap (λ names. has name_cmp q names || inherits h.roles h.declared role q) c.new.ensures ∙ sym (has_juniors h.roles h.declared role q))
