use Rattle.rbac_decide.specs.Hindrance.{told_by, first_hindrance}
use Rattle.rbac_embedded.proofs.ExplainingLemmas.{ok_with, denied_by}
use Rattle.rbac_embedded.proofs.explaining.explanation_text.Goals as goal

pub returns-in-Some : goal.returns-in-Some
returns-in-Some c =
    let command = c.args.command.now in
    let s = c.args.policy.now in
    ok_with c.denied_text.result _ _
    (λ text told. denied_by (first_hindrance command s) command s (told_by c.in-Some.explained.hindrance) c.in-Some.explained.explanation text.items
    (rw c.in-Some.is at c.in_ok-explained.ensures.named) (rw c.in-Some.is at c.in_ok-explained.ensures.explained) told) c.denied_text.ensures
