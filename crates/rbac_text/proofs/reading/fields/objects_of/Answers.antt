use Rattle.std.proofs.Common.{◌∙◌, ap, sym, Ok}
use Rattle.lent_json.specs.Data.{items}
use Rattle.rbac_text.specs.Steps.{◌>>◌, provided}
use Rattle.rbac_text.specs.declared.refusal.LineRefusal.TheVariants.{WrongKind}
use Rattle.rbac_text.proofs.ArrayLemmas.{are_objects_of}
use Rattle.rbac_text.proofs.reading.fields.objects_of.Goals as goal

pub returns-then-not-are_objects : goal.returns-then-not-are_objects
returns-then-not-are_objects c =
    ap (λ all. provided all WrongKind >> Ok (items c.args.array.now)) (c.if-not-are_objects.ensures ∙ sym (are_objects_of c.args.array.now))

pub returns : goal.returns
returns c =
    ap (λ all. provided all WrongKind >> Ok (items c.args.array.now)) (c.if-not-are_objects.ensures ∙ sym (are_objects_of c.args.array.now))
