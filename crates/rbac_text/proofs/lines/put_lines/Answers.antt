use Rattle.rbac_text.specs.Command.{command_fields}
use Rattle.rbac_text.specs.CommandText.{AreFields}
use Rattle.rbac_text.specs.Lines.{asking_line}
use Rattle.rbac_text.proofs.LineLemmas.{line_more}
use Rattle.rbac_text.proofs.lines.put_lines.Goals as goal

pub loop-command-preserved : goal.loop-command-preserved
loop-command-preserved c =
    line_more asking_line (λ command. AreFields (command_fields command))
    c.args.text.now.items c.loop-command.text.items c.put_line.new.text.items c.args.commands.now c.loop-command.command-index c.command-item.result
    c.loop-command-test.true c.command-item.is c.loop-command.invariant.0 c.loop-command.invariant.1 c.in_ok-put_line.ensures.text c.in_ok-put_line.ensures.fit
