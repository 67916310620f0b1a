use Rattle.std.proofs.Common.{◌≡◌, ◌∙◌, ◌++◌, map, ap}
use Rattle.line_engine.specs.Lines.{lines}
use Rattle.rbac_text.specs.Asked.{asked}
use Rattle.rbac_text.specs.Client.{client}
use Rattle.rbac_text.specs.Lines.{lines_text}
use Rattle.rbac_text.proofs.AskedLines.{all_asked, lines_ask, lines_read}
use Rattle.rbac_text.proofs.lines.client_lines.Goals as goal

pub returns-clause-asks : goal.returns-clause-asks
returns-clause-asks c fits =
    let told = c.args.commands.now in
    let text : c.put_lines.new.text.items ≡ lines_text told = c.in_ok-put_lines.ensures.text ∙ ap (λ l. l ++ lines_text told) c.new-text.ensures.items in
    ap (λ l. map client (lines l)) text ∙ lines_ask told (all_asked told c.in_ok-put_lines.ensures.fit fits)

pub returns-clause-reads : goal.returns-clause-reads
returns-clause-reads c fits =
    let told = c.args.commands.now in
    let text : c.put_lines.new.text.items ≡ lines_text told = c.in_ok-put_lines.ensures.text ∙ ap (λ l. l ++ lines_text told) c.new-text.ensures.items in
    ap (λ l. map asked (lines l)) text ∙ lines_read told (all_asked told c.in_ok-put_lines.ensures.fit fits)
