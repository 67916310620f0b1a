use Rattle.std.proofs.Common.{[], false, refl}
use Rattle.rbac_decide.proofs.Common.{Name}
use Rattle.rbac_decide.proofs.AffectedLemmas.{plan_of}
use Rattle.rbac_decide.proofs.counting.affected.plan_nothing.Goals as goal

pub returns-clause-planned : goal.returns-clause-planned
returns-clause-planned c = plan_of c.plan.result [] [] (λ (s u : Name). false) c.plan.new.self c.plan.ensures.sets c.plan.ensures.users c.plan.ensures.placed (λ s u. refl)
