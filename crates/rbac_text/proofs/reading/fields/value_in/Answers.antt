use Rattle.std.proofs.Common.{ap, ◌∙◌}
use Rattle.std.specs.Option.{ok_or}
use Rattle.lent_json.specs.Data.{meaning}
use Rattle.rbac_text.specs.Steps.{seen}
use Rattle.rbac_text.specs.declared.refusal.LineRefusal.TheVariants.{MissingField}
use Rattle.rbac_text.proofs.ReadingLemmas.{seen-ok_or}
use Rattle.rbac_text.proofs.reading.fields.value_in.Goals as goal

pub returns : goal.returns
returns c =
    ap (seen (λ v. meaning v.now)) c.ok_or.ensures.value
    ∙ seen-ok_or (λ v. meaning v.now) c.get.result MissingField
    ∙ ap (λ found. ok_or found MissingField) c.get.ensures
