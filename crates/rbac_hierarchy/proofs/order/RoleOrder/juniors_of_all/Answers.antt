use Rattle.std.proofs.Common.{◌||◌, ◌∙◌, [], ap, false, refl, take}
use Rattle.std.specs.List.{list_any}
use Rattle.rbac_terms.specs.Inheritance.{inherits}
use Rattle.rbac_terms.specs.Name.{Name}
use Rattle.rbac_hierarchy.proofs.ClosedLemmas.{closed}
use Rattle.rbac_hierarchy.proofs.LoopLemmas.{any_one_more, taken_whole}
use Rattle.rbac_hierarchy.proofs.order.RoleOrder.juniors_of_all.Goals as goal

pub loop-role-preserved : goal.loop-role-preserved
loop-role-preserved g c = λ r.
    let h = g.Self.RoleOrder.content c.args.self.now in
    c.in_ok-juniors.ensures
    (λ all. closed (λ (role : Name). role) h.roles h.declared [] c.loop-role.juniors (take c.loop-role.role-index c.args.roles.now) refl c.loop-role.invariant c.role-item.result) r
    ∙ ap (λ t. t || inherits h.roles h.declared c.role-item.result r) (c.loop-role.invariant r)
    ∙ any_one_more false (λ role. inherits h.roles h.declared role r) c.args.roles.now c.loop-role.role-index c.role-item.result c.loop-role-test.true c.role-item.is

pub returns : goal.returns
returns g c = λ r.
    let h = g.Self.RoleOrder.content c.args.self.now in
    c.loop-role.invariant r ∙ ap (λ t. list_any (λ role. inherits h.roles h.declared role r) t) (taken_whole c.args.roles.now c.loop-role.role-index c.loop-role-test.false)
