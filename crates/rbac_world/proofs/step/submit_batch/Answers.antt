use Rattle.rbac_world.proofs.StepLemmas.{batch_step}
use Rattle.rbac_world.proofs.step.submit_batch.Goals as goal

pub returns : goal.returns
returns c =
    λ group vocabulary are.
    batch_step group vocabulary c.args.members.now are c.args.at c.in-Ok.place c.args.caller c.args.serial c.args.commands.now c.index-members-place.result c.submit_batch.result c.submit_batch.new.member c.in-Ok.ensures.place c.submit_batch.ensures
