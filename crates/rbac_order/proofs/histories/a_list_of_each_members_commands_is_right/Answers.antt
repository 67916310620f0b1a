use Rattle.rbac_order.proofs.HistoryLemmas.{second_step, front_right}
use Rattle.rbac_order.proofs.histories.a_list_of_each_members_commands_is_right.Goals as goal

pub returns : goal.returns
returns c = record { order = λ w xs lawful. second_step w lawful xs; right = front_right }
