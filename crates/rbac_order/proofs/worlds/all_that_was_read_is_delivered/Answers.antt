use Rattle.rbac_order.proofs.PlayLemmas.{always_delivered}
use Rattle.rbac_order.proofs.worlds.all_that_was_read_is_delivered.Goals as goal

pub returns : goal.returns
returns c = always_delivered
