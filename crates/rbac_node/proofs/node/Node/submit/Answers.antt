use Rattle.std.proofs.Common.{◌∷◌, []}
use Rattle.rbac_node.proofs.KeptLemmas.{kept_submitted}
use Rattle.rbac_node.proofs.node.Node.submit.Goals as goal

pub invariant_of-self : goal.invariant_of-self
invariant_of-self g c =
    kept_submitted g.G.GroupName c.self.inside c.self.invariant c.submit.result c.args.self.now c.submit.new.self c.args.caller c.args.serial (c.args.command ∷ []) c.self.view_is c.requires
    c.submit.ensures.submitted c.submit.ensures.unchanged
