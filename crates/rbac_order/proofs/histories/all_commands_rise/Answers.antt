use Rattle.rbac_order.proofs.HistoryLemmas.{Rising-all}
use Rattle.rbac_order.proofs.histories.all_commands_rise.Goals as goal

pub returns : goal.returns
returns c = Rising-all
