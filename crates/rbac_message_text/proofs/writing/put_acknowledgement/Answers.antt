use Rattle.std.proofs.Common.{rules, ◌<◌, ◌^◌}
use Rattle.rbac_message_text.proofs.MessageBack.{acknowledgement_told}
use Rattle.rbac_message_text.proofs.writing.put_acknowledgement.Goals as goal

pub returns-clause-reads_back : goal.returns-clause-reads_back
returns-clause-reads_back c =
    let clock : c.args.stamp.clock < 2 ^ 64 = search rules in
    let member : c.args.stamp.member < 2 ^ 32 = search rules in
    acknowledgement_told c.put_piece.result c.args.stamp clock member
