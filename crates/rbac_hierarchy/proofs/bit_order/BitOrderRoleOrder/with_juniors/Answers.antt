use Rattle.std.proofs.Common.{◌≡◌, ◌||◌, ◌&&◌, refl, ap, sym, ◌∙◌, List}
use Rattle.sorted_keys.specs.Keys.{has}
use Rattle.rbac_terms.specs.Name.{Name, name_cmp}
use Rattle.rbac_terms.specs.Inheritance.{inherits}
use Rattle.rbac_hierarchy.specs.Numbers.{roles_of, role_at}
use Rattle.rbac_hierarchy.proofs.ExactLemmas.{told_by_bit}
use Rattle.rbac_hierarchy.proofs.JuniorLemmas.{none_inherited, inherited_roles}
use Rattle.rbac_hierarchy.proofs.LoopLemmas.{or_nothing, if_each}
use Rattle.rbac_hierarchy.proofs.NumberLemmas.{has_role}
use Rattle.rbac_hierarchy.proofs.bit_order.BitOrderRoleOrder.with_juniors.Goals as goal

pub returns-in_default : goal.returns-in_default
returns-in_default c =
    let names = c.self.inside.numbers.keys in
    rw (← ap (λ h. h.content) c.self.view_is) (λ r.
    or_nothing (has name_cmp r c.args.names)
    ∙ ap (λ t. has name_cmp r c.args.names || t) (sym (none_inherited (roles_of names) c.self.inside.declared.content c.args.role.now r (has_role names c.args.role.now ∙ c.in_default.ensures.absent))))

pub returns : goal.returns
returns c =
    let inside = c.self.inside in
    let names = inside.numbers.keys in
    let roles = roles_of names in
    let role = c.args.role.now in
    let found = c.in-Some.ensures.numbered in
    rw (← ap (λ h. h.content) c.self.view_is)
    (if_each c.with_roles_where.result
    (λ (more : List Name). (r : Name) → has name_cmp r more ≡ (has name_cmp r c.args.names || (inherits roles inside.declared.content role r && has name_cmp r names)))
    (λ (more : List Name). (r : Name) → has name_cmp r more ≡ (has name_cmp r c.args.names || inherits roles inside.declared.content role r))
    (λ more told r. told r ∙ ap (λ b. has name_cmp r c.args.names || (inherits roles inside.declared.content role r && b)) (sym (has_role names r)) ∙ ap (λ b. has name_cmp r c.args.names || b) (inherited_roles roles inside.declared.content role r))
    ((rw c.as_slice.ensures.keys at c.with_roles_where.ensures) (λ r. inherits roles inside.declared.content role r)
    (λ i lt. told_by_bit names inside.declared.content inside.inherited c.self.invariant role (role_at names i) c.in-Some.above i found.0 found.1 lt refl)))
