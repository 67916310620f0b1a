use Rattle.std.proofs.Common.{◌++◌}
use Rattle.rbac_text.specs.CommandText.{command_text}
use Rattle.rbac_text.specs.Lines.{begin, end}
use Rattle.rbac_text.proofs.TextLemmas.{then_piece, put_before}
use Rattle.rbac_text.proofs.lines.put_asking.Goals as goal

pub returns-clause-text : goal.returns-clause-text
returns-clause-text c =
    let old = c.args.text.now.items in
    let front = c.put_piece.new.text.items in
    let told = c.put_command.new.text.items in
    let text = command_text c.args.command.now in
    put_before c.put_piece-2.result old told c.put_piece-2.new.text.items (begin ++ text) end
    (then_piece old front told begin text c.in_ok-put_piece.ensures c.in_ok-put_command.ensures.text) c.put_piece-2.ensures
