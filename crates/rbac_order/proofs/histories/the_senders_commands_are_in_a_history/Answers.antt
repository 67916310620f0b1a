use Rattle.rbac_order.proofs.HistoryLemmas.{history_of_own, history_of_another}
use Rattle.rbac_order.proofs.histories.the_senders_commands_are_in_a_history.Goals as goal

pub returns : goal.returns
returns c = record { own = history_of_own; of_another = history_of_another }
