use Rattle.std.proofs.Common.{ap, ◌∙◌, Err}
use Rattle.std.specs.Option.{ok_or}
use Rattle.rbac_text.specs.declared.refusal.LineRefusal.TheVariants.{NotJson}
use Rattle.rbac_text.proofs.ValueLemmas.{value_of_short}
use Rattle.rbac_text.proofs.reading.value_within.Goals as goal

pub returns-in-Ok-clause-value_read : goal.returns-in-Ok-clause-value_read
returns-in-Ok-clause-value_read c = value_of_short c.args.longest c.args.text.now c.if-longest-text.false ∙ ap (λ o. ok_or o NotJson) c.in-Ok.ensures.read

pub returns-in-Err-NotJson-clause-first_refusal : goal.returns-in-Err-NotJson-clause-first_refusal
returns-in-Err-NotJson-clause-first_refusal c = λ _.
    value_of_short c.args.longest c.args.text.now c.if-longest-text.false ∙ ap (λ o. ok_or o NotJson) (c.in-Err-NotJson.ensures.refused (ap Err c.in-Err-NotJson.field-0-is))
