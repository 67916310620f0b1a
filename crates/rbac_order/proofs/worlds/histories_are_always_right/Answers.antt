use Rattle.rbac_order.proofs.PlayLemmas.{always_right}
use Rattle.rbac_order.proofs.worlds.histories_are_always_right.Goals as goal

pub returns : goal.returns
returns c = always_right
