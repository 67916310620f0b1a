use Rattle.std.proofs.Common.{rules, ◌≡◌}
use Rattle.rbac_message_text.specs.MessageText.{longest_message}
use Rattle.rbac_embedded_member.specs.Observing.{acting_told}
use Rattle.rbac_embedded_member.specs.Texts.{batch_told, next_submit_batch}
use Rattle.rbac_embedded_member.proofs.kept.KeptMember.next_submit_batch.Goals as goal

-- the text was read, and the place acts
pub returns-in-Ok-clause-none : goal.returns-in-Ok-clause-none
returns-in-Ok-clause-none c =
    let same : acting_told (next_submit_batch c.args.caller c.args.serial c.args.text.now) c.args.self.now ≡ batch_told longest_message c.args.caller c.args.serial c.in-Ok.commands c.self.inside.member =
    search rules in
    rw same c.next_batch.ensures.none
