use Rattle.rbac_lines.proofs.ConversationLemmas.{of_line}
use Rattle.rbac_lines.proofs.conversing.ConversingTaking.take_line.Goals as goal

pub returns-in-Ok-clause-unchanged_or_taken : goal.returns-in-Ok-clause-unchanged_or_taken
returns-in-Ok-clause-unchanged_or_taken g c = of_line g.D.Desk.asks c.args.desk.now c.args.number c.ask.new.desk c.ask.result _ _ c.in-Ok.ensures.command_read c.ask.ensures.unchanged_or_answered
