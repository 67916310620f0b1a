use Rattle.std.proofs.Common.{codes, decimal}
use Rattle.rbac_text.specs.AnswerText.{answer_text}
use Rattle.rbac_text.specs.CommandText.{command_text}
use Rattle.rbac_message_text.specs.StampText.{stamp_text}
use Rattle.rbac_message_text.proofs.RecordLemmas.{put_halves}
use Rattle.rbac_message_text.proofs.record.put_record.Goals as goal

pub returns : goal.returns
returns c =
    let delivered = c.args.delivered.now in
    put_halves c.put_end.result c.args.text.now.items c.put_begin.new.text.items c.put_end.new.text.items
    (codes "{\"answer\":") (answer_text delivered.answer) (codes ",\"caller\":") (decimal delivered.caller) (codes ",\"command\":") (command_text delivered.command)
    (codes ",\"serial\":") (decimal delivered.serial) (codes ",\"stamp\":") (stamp_text delivered.stamp) (codes "}")
    c.in_ok-put_begin.ensures c.put_end.ensures
