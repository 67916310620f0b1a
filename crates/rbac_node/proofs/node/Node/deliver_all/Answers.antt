use Rattle.std.proofs.Common.{sym, ◌∙◌}
use Rattle.rbac_node.proofs.DeliveryLemmas.{delivered_more}
use Rattle.rbac_node.proofs.node.Node.deliver_all.Goals as goal

pub loop-preserved : goal.loop-preserved
loop-preserved g c =
    delivered_more c.args.self.now c.loop.self c.deliver.new.self c.in_ok-deliver.field-0 c.loop.invariant c.in_ok-deliver.ensures.place (sym c.is_some.ensures ∙ c.if-is_some.true) c.in_ok-deliver.ensures.delivered
