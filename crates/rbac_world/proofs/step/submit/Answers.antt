use Rattle.rbac_world.proofs.StepLemmas.{submit_step}
use Rattle.rbac_world.proofs.step.submit.Goals as goal

pub returns : goal.returns
returns c =
    λ group vocabulary are.
    submit_step group vocabulary c.args.members.now are c.args.at c.in-Ok.place c.args.caller c.args.serial c.args.command.now c.index-members-place.result c.submit.result c.submit.new.member c.in-Ok.ensures.place c.submit.ensures
