use Rattle.std.proofs.Common.{rules, ◌≡◌, Err, ap, ◌∙◌}
use Rattle.rbac_terms.specs.State.{State}
use Rattle.rbac_terms.specs.Effect.{effect}
use Rattle.rbac_embedded.proofs.NoEffect.{no_effect}
use Rattle.rbac_embedded.proofs.monitor.Monitor.answer_command.Goals as goal

pub returns-in_err-text-in_default : goal.returns-in_err-text-in_default
returns-in_err-text-in_default c =
    let b : c.apply.new.self ≡ effect c.args.command.now c.self.inside.policy = c.in_ok-other.ensures.effect in
    let e : effect c.args.command.now c.self.inside.policy ≡ c.self.inside.policy = no_effect c.args.command.now c.self.inside.policy c.in_ok-other.other c.in_ok-other.ensures.reply c.in_default.not-Done in
    let kept : record { state = c.apply.new.self; answer = c.self.inside.answer.items } ≡ c.args.self.now = ap (λ (s : State). record { state = s; answer = c.self.inside.answer.items }) (b ∙ e) ∙ c.self.view_is in
    let same : c.from_residual-in_err-text-in_default.result ≡ Err c.in_err-text-in_default.field-0.0 = search rules in
    rw same (record { after = tt; unchanged = kept })
