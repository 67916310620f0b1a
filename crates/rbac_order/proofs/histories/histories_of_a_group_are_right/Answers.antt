use Rattle.rbac_order.proofs.GroupLemmas.{lawful_world, right}
use Rattle.rbac_order.proofs.histories.histories_of_a_group_are_right.Goals as goal

pub returns : goal.returns
returns c = record { lawful = lawful_world; right = right }
