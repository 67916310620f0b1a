use Rattle.std.proofs.Common.{rules, ◌≡◌, ◌+◌, ◌∙◌, ℕ, length, refl, ap}
use Rattle.rbac_embedded_member.specs.Step.{Step, batch_step, own_step}
use Rattle.rbac_embedded_member.proofs.SubmitLemmas.{submits_by_taking}
use Rattle.rbac_embedded_member.proofs.steps.submit.Goals as goal

pub returns-in-Ok-clause-status : goal.returns-in-Ok-clause-status
returns-in-Ok-clause-status c = λ told.
    c.take_own.ensures.status told
    ∙ ap (λ (s : Step). s.status) (submits_by_taking c.args.longest c.args.caller c.args.serial (length c.sent.result.now + 1) c.args.commands c.args.member.now c.in-Ok.message c.invariants.ensures c.in-Ok.ensures.accepted (ap (λ xs. length xs + 1) c.sent.ensures) c.in-Ok.ensures.made)

pub returns-in-Ok-clause-member : goal.returns-in-Ok-clause-member
returns-in-Ok-clause-member c = λ told.
    c.take_own.ensures.member told
    ∙ ap (λ (s : Step). s.member) (submits_by_taking c.args.longest c.args.caller c.args.serial (length c.sent.result.now + 1) c.args.commands c.args.member.now c.in-Ok.message c.invariants.ensures c.in-Ok.ensures.accepted (ap (λ xs. length xs + 1) c.sent.ensures) c.in-Ok.ensures.made)

pub returns-in-Ok-clause-number : goal.returns-in-Ok-clause-number
returns-in-Ok-clause-number c = λ told.
    c.take_own.ensures.number told
    ∙ ap (λ (s : Step). s.told) (submits_by_taking c.args.longest c.args.caller c.args.serial (length c.sent.result.now + 1) c.args.commands c.args.member.now c.in-Ok.message c.invariants.ensures c.in-Ok.ensures.accepted (ap (λ xs. length xs + 1) c.sent.ensures) c.in-Ok.ensures.made)
