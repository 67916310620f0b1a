use Rattle.std.proofs.Common.{arith, ◌∙◌}
use Rattle.rbac_separation.proofs.CountLemmas.{none_put, one_given}
use Rattle.rbac_separation.proofs.counts.Counts.put.Goals as goal

pub returns-in_ok-plan-in-None-clause-put : goal.returns-in_ok-plan-in-None-clause-put
returns-in_ok-plan-in-None-clause-put c =
    one_given _ _ _ _ _ _ _ _ (c.in_ok-plan-in-None.ensures.sets ∙ c.from_ref.ensures.value)
    (c.in_ok-plan-in-None.ensures.users ∙ c.from_ref-then-number-gt0.ensures.value) c.plan.ensures.numbers c.renumber.ensures

pub returns-else-number-gt0-clause-put : goal.returns-else-number-gt0-clause-put
returns-else-number-gt0-clause-put c = none_put _ _ _ _ c.in-None.ensures.none (omega (arith, c.if-number-gt0.false))
