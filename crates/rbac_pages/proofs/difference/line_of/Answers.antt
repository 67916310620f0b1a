use Rattle.std.proofs.Common.{◌∙◌, ap, append-nil}
use Rattle.rbac_text.specs.Lines.{asking_line, lines_text}
use Rattle.rbac_pages.proofs.difference.line_of.Goals as goal

pub returns : goal.returns
returns c = c.in_ok-line.ensures.text ∙ ap lines_text c.from_ref.ensures.value ∙ append-nil (asking_line c.args.command.now)
