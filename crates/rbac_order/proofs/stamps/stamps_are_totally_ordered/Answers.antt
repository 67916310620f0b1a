use Rattle.rbac_order.proofs.StampLemmas.{in_numbers}
use Rattle.rbac_order.proofs.stamps.stamps_are_totally_ordered.Goals as goal

pub returns-clause-in_numbers : goal.returns-clause-in_numbers
returns-clause-in_numbers c = in_numbers
