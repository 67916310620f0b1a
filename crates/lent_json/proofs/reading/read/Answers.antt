use Rattle.std.proofs.Common.{sym, ap, ◌∙◌}
use Rattle.json.specs.Value.{value_view}
use Rattle.lent_json.specs.Data.{document}
use Rattle.lent_json.proofs.WholeTexts.{not_utf8, read_in_range, read_out_of_range}
use Rattle.lent_json.proofs.reading.read.Goals as goal

pub returns-in_default-clause-refused : goal.returns-in_default-clause-refused
returns-in_default-clause-refused c = λ _. not_utf8 c.args.text.now c.in_default.ensures.cases.0

pub returns-then-is_in_range-clause-read : goal.returns-then-is_in_range-clause-read
returns-then-is_in_range-clause-read c =
    read_in_range c.args.text.now (value_view c.in_ok-value.value) c.in-Ok.ensures.cases.1
    (sym (ap document c.in-Ok.ensures.cases.0) ∙ c.in_ok-value.ensures.read) (sym c.is_in_range.ensures ∙ c.if-is_in_range.true)

pub returns-clause-refused : goal.returns-clause-refused
returns-clause-refused c = λ _.
    read_out_of_range c.args.text.now (value_view c.in_ok-value.value) c.in-Ok.ensures.cases.1
    (sym (ap document c.in-Ok.ensures.cases.0) ∙ c.in_ok-value.ensures.read) (sym c.is_in_range.ensures ∙ c.if-is_in_range.false)
