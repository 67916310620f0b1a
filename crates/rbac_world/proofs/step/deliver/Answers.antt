use Rattle.rbac_world.proofs.StepLemmas.{deliver_step}
use Rattle.rbac_world.proofs.step.deliver.Goals as goal

pub returns : goal.returns
returns c =
    λ group vocabulary are.
    deliver_step group vocabulary c.args.members.now are c.args.at c.in-Ok.place c.index-members-place.result c.deliver.result c.deliver.new.member c.in-Ok.ensures.place c.deliver.ensures
