use Rattle.rbac_order.proofs.StepLemmas.{founding_has, step_has}
use Rattle.rbac_order.proofs.worlds.each_step_keeps_a_group.Goals as goal

pub returns : goal.returns
returns c = record { founding = founding_has; step = step_has }
