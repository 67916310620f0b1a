use Rattle.rbac_order.proofs.PlayLemmas.{always_one}
use Rattle.rbac_order.proofs.worlds.histories_are_one.Goals as goal

pub returns : goal.returns
returns c = always_one
