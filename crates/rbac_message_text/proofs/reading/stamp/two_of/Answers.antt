use Rattle.std.proofs.Common.{sym}
use Rattle.rbac_message_text.proofs.StampLemmas.{not_two}
use Rattle.rbac_message_text.proofs.reading.stamp.two_of.Goals as goal

pub returns-then-array-ne2 : goal.returns-then-array-ne2
returns-then-array-ne2 c = sym (not_two c.args.array.now c.if-array-ne2.true)
