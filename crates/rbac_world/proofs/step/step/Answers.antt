use Rattle.std.proofs.Common.{sym, subst}
use Rattle.rbac_world.specs.Moves.{IsGroupStep}
use Rattle.rbac_world.proofs.step.step.Goals as goal

pub returns-in-Submit : goal.returns-in-Submit
returns-in-Submit c = λ group vocabulary are. subst (λ e. IsGroupStep group vocabulary c.args.members.now e c.submit.result c.submit.new.members) (sym c.in-Submit.is) (c.submit.ensures group vocabulary are)

pub returns-in-SubmitBatch : goal.returns-in-SubmitBatch
returns-in-SubmitBatch c = λ group vocabulary are. subst (λ e. IsGroupStep group vocabulary c.args.members.now e c.submit_batch.result c.submit_batch.new.members) (sym c.in-SubmitBatch.is) (c.submit_batch.ensures group vocabulary are)

pub returns-in-Receive : goal.returns-in-Receive
returns-in-Receive c = λ group vocabulary are. subst (λ e. IsGroupStep group vocabulary c.args.members.now e c.receive.result c.receive.new.members) (sym c.in-Receive.is) (c.receive.ensures group vocabulary are)

pub returns-in-Deliver : goal.returns-in-Deliver
returns-in-Deliver c = λ group vocabulary are. subst (λ e. IsGroupStep group vocabulary c.args.members.now e c.deliver.result c.deliver.new.members) (sym c.in-Deliver.is) (c.deliver.ensures group vocabulary are)
