use Rattle.std.proofs.Common.{◌∙◌, ap}
use Rattle.std.proofs.lemmas.List.{take_all}
use Rattle.rbac_pages.specs.DifferenceText.{is_line_of}
use Rattle.rbac_pages.proofs.DifferenceLemmas.{line_more}
use Rattle.rbac_pages.proofs.difference.LineSet.of.Goals as goal

pub loop-command-preserved : goal.loop-command-preserved
loop-command-preserved c = λ line.
    line_more (λ key. key.items) c.loop-command.lines.keys c.insert.new.self.keys c.in_ok-line_of.field-0 c.args.commands.now c.loop-command.command-index c.command-item.result c.loop-command-test.true c.command-item.is
    c.in_ok-insert.ensures.keys c.in_ok-line_of.ensures line (c.loop-command.invariant line)

pub returns : goal.returns
returns c = λ line.
    let whole = take_all c.loop-command.command-index c.args.commands.now c.loop-command-test.false in
    c.loop-command.invariant line ∙ ap (λ commands. is_line_of commands line) whole
