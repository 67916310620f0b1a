use Rattle.rbac_member.proofs.CommandLemmas.{had_some, on_err}
use Rattle.rbac_member.proofs.member.counting.hold.Goals as goal

pub returns-in_err-reserve-in-Batch-clause-had_a_command : goal.returns-in_err-reserve-in-Batch-clause-had_a_command
returns-in_err-reserve-in-Batch-clause-had_a_command c = on_err c.from_residual.result _ (had_some c.args.message.now c.in-Batch.stamp c.in-Batch.caller c.in-Batch.serial c.in-Batch.commands c.in-Batch.is c.requires.batch)

pub returns-in_err-hold_all-in-Batch-clause-had_a_command : goal.returns-in_err-hold_all-in-Batch-clause-had_a_command
returns-in_err-hold_all-in-Batch-clause-had_a_command c = on_err c.from_residual-in_err-hold_all-in-Batch.result _ (had_some c.args.message.now c.in-Batch.stamp c.in-Batch.caller c.in-Batch.serial c.in-Batch.commands c.in-Batch.is c.requires.batch)
