use Rattle.std.proofs.Common.{◌||◌, ◌∙◌, ap, take}
use Rattle.std.specs.List.{list_any}
use Rattle.sorted_keys.specs.Keys.{has}
use Rattle.rbac_terms.specs.Name.{Name, name_cmp}
use Rattle.rbac_terms.specs.Inheritance.{inherits}
use Rattle.rbac_hierarchy.proofs.ClosedLemmas.{closed}
use Rattle.rbac_hierarchy.proofs.LoopLemmas.{or_nothing, any_one_more, taken_whole}
use Rattle.rbac_hierarchy.proofs.order.RoleOrder.with_juniors_of_assigned.Goals as goal

pub loop-pair-init : goal.loop-pair-init
loop-pair-init g c = λ r. or_nothing (has name_cmp r c.args.names)

pub loop-pair-preserved : goal.loop-pair-preserved
loop-pair-preserved g c = λ r.
    let h = g.Self.RoleOrder.content c.args.self.now in
    let below = λ (pair : Name × Name). inherits h.roles h.declared pair.1 r in
    c.in_ok-more.ensures
    (λ from_none. closed (λ (pair : Name × Name). pair.1) h.roles h.declared c.args.names c.loop-pair.more (take c.loop-pair.pair-index c.args.assignments.now)
    ((c.is_empty-from_none.ensures).0 from_none) c.loop-pair.invariant c.pair-item.result.1) r
    ∙ ap (λ t. t || inherits h.roles h.declared c.pair-item.result.1 r) (c.loop-pair.invariant r)
    ∙ any_one_more (has name_cmp r c.args.names) below c.args.assignments.now c.loop-pair.pair-index c.pair-item.result c.loop-pair-test.true c.pair-item.is

pub returns : goal.returns
returns g c = λ r.
    let h = g.Self.RoleOrder.content c.args.self.now in
    c.loop-pair.invariant r ∙ ap (λ t. has name_cmp r c.args.names || list_any (λ (pair : Name × Name). inherits h.roles h.declared pair.1 r) t) (taken_whole c.args.assignments.now c.loop-pair.pair-index c.loop-pair-test.false)
