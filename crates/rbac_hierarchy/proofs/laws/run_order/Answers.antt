use Rattle.std.proofs.Common.{◌∙◌, ap, sym}
use Rattle.rbac_hierarchy.specs.Changes.{after_one}
use Rattle.rbac_hierarchy.proofs.ChangeLemmas.{one_change_more}
use Rattle.rbac_hierarchy.proofs.laws.run_order.Goals as goal

pub loop-change-preserved : goal.loop-change-preserved
loop-change-preserved g c =
    c.in_ok-make.ensures.made
    ∙ ap (after_one c.change-item.result) c.loop-change.invariant
    ∙ sym (one_change_more c.args.changes.now c.loop-change.change-index c.change-item.result (g.O.RoleOrder.content c.args.order.now) c.loop-change-test.true c.change-item.is)
