use Rattle.rbac_terms.specs.State.{State}
use Rattle.rbac_telling.specs.Leading.{IsLed}
use Rattle.rbac_telling.proofs.leading.Way.take_out.Given as goal

-- from wherever it came so far, it still comes
abbrev pub invariant-loop-thing : goal.invariant-loop-thing
invariant-loop-thing g l = (s : State) → IsLed s l.fn.self.commands.items l.fn.self.policy → IsLed s l.self.commands.items l.self.policy
