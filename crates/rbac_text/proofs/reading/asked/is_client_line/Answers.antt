use Rattle.std.proofs.Common.{ap, ◌∙◌, is_some}
use Rattle.lent_json.specs.Data.{meaning}
use Rattle.rbac_text.proofs.ReadingLemmas.{is_some-map}
use Rattle.rbac_text.proofs.reading.asked.is_client_line.Goals as goal

pub returns : goal.returns
returns c =
    c.is_some.ensures
    ∙ is_some-map (λ v. meaning v.now) c.get.result
    ∙ ap is_some c.get.ensures
