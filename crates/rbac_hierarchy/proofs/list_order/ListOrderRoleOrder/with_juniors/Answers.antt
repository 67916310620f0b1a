use Rattle.std.proofs.Common.{◌≡◌, ◌||◌, ap, ◌∙◌, List}
use Rattle.sorted_keys.specs.Keys.{has}
use Rattle.rbac_terms.specs.Name.{Name, name_cmp}
use Rattle.rbac_terms.specs.Inheritance.{inherits}
use Rattle.rbac_hierarchy.proofs.LoopLemmas.{or_nothing, if_each}
use Rattle.rbac_hierarchy.proofs.RowLemmas.{row_tells, none_found}
use Rattle.rbac_hierarchy.proofs.list_order.ListOrderRoleOrder.with_juniors.Goals as goal

pub returns-in-Some : goal.returns-in-Some
returns-in-Some c =
    let h = c.args.self.now.content in
    if_each c.with_all.result
    (λ (more : List Name). (r : Name) → has name_cmp r more ≡ (has name_cmp r c.args.names || has name_cmp r c.names.result.now))
    (λ (more : List Name). (r : Name) → has name_cmp r more ≡ (has name_cmp r c.args.names || inherits h.roles h.declared c.args.role.now r))
    (λ more told r. told r ∙ ap (λ t. has name_cmp r c.args.names || t) (rw (← ap (λ h. h.content) c.self.view_is) (row_tells _ _ c.self.invariant _ r _ _ c.in-Some.ensures (ap (has name_cmp r) c.names.ensures.names))))
    c.with_all.ensures

pub returns-in-None : goal.returns-in-None
returns-in-None c = λ r. rw (← ap (λ h. h.content) c.self.view_is)
    (or_nothing (has name_cmp r c.args.names) ∙ ap (λ t. has name_cmp r c.args.names || t) (none_found _ _ c.self.invariant _ r c.in-None.ensures))
