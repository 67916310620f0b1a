use Rattle.std.proofs.Common.{◌∙◌, ap}
use Rattle.rbac_text.specs.Steps.{provided}
use Rattle.rbac_founding.specs.declared.refusal.FoundingRefusal.TheVariants.{UnknownKey}
use Rattle.rbac_founding.proofs.FoundingLemmas.{has_only_keys}
use Rattle.rbac_founding.proofs.document.only_keys.Goals as goal

pub returns-then-not-has_only : goal.returns-then-not-has_only
returns-then-not-has_only c = ap (λ holds. provided holds UnknownKey) (c.if-not-has_only.ensures ∙ has_only_keys c.args.keys.now c.args.document.now.entries)

pub returns : goal.returns
returns c = ap (λ holds. provided holds UnknownKey) (c.if-not-has_only.ensures ∙ has_only_keys c.args.keys.now c.args.document.now.entries)
