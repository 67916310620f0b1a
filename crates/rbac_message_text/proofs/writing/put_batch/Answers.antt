use Rattle.std.proofs.Common.{rules, ◌<◌, ◌^◌}
use Rattle.rbac_message_text.proofs.MessageBack.{batch_told}
use Rattle.rbac_message_text.proofs.writing.put_batch.Goals as goal

pub returns-clause-reads_back : goal.returns-clause-reads_back
returns-clause-reads_back c =
    let clock : c.args.stamp.clock < 2 ^ 64 = search rules in
    let member : c.args.stamp.member < 2 ^ 32 = search rules in
    let caller : c.args.caller < 2 ^ 32 = search rules in
    let serial : c.args.serial < 2 ^ 32 = search rules in
    batch_told c.put_piece.result c.args.stamp c.args.caller c.args.serial c.args.commands.now clock member caller serial c.in_ok-put_commands.ensures.fit
