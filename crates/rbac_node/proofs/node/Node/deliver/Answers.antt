use Rattle.rbac_node.proofs.KeptLemmas.{kept_delivered}
use Rattle.rbac_node.proofs.node.Node.deliver.Goals as goal

pub invariant_of-self : goal.invariant_of-self
invariant_of-self g c =
    kept_delivered g.G.GroupName c.self.inside c.self.invariant c.deliver.result c.deliver.new.self c.deliver.ensures.delivered c.deliver.ensures.unchanged
