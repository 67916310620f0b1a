use Rattle.std.proofs.Common.{◌∙◌, ap, Err, Ok, if◌then◌else◌}
use Rattle.lent_json.specs.Data.{keys_of, members}
use Rattle.rbac_text.specs.declared.refusal.LineRefusal.TheVariants.{ExtraField}
use Rattle.rbac_text.proofs.FieldLemmas.{has_only}
use Rattle.rbac_text.proofs.reading.fields.only_keys.Goals as goal

pub returns-then-has_only : goal.returns-then-has_only
returns-then-has_only c = ap (λ b. if b then Ok tt else Err ExtraField) (c.if-has_only.ensures ∙ has_only c.args.keys.now (keys_of (members c.args.object.now)))

pub returns-else-has_only : goal.returns-else-has_only
returns-else-has_only c = ap (λ b. if b then Ok tt else Err ExtraField) (c.if-has_only.ensures ∙ has_only c.args.keys.now (keys_of (members c.args.object.now)))
