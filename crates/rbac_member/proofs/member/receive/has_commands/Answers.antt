use Rattle.std.proofs.Common.{sym, ap, ◌∙◌, ◌==◌, not, length}
use Rattle.rbac_member.proofs.CommandLemmas.{has_some}
use Rattle.rbac_member.proofs.member.receive.has_commands.Goals as goal

pub returns-in-Batch : goal.returns-in-Batch
returns-in-Batch c =
    ap not c.is_empty.ensures ∙ ap (λ l. not (length l == 0)) c.as_slice.ensures
    ∙ sym (has_some c.args.message.now c.in-Batch.stamp c.in-Batch.caller c.in-Batch.serial c.in-Batch.commands c.in-Batch.is)
