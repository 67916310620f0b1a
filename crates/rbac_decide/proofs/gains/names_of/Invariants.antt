use Rattle.std.proofs.Common.{◌≡◌, take, map}
use Rattle.rbac_decide.proofs.Common.{CountedSet}
use Rattle.rbac_decide.proofs.gains.names_of.Given as goal

abbrev pub invariant-loop-set : goal.invariant-loop-set
invariant-loop-set l = l.names.items ≡ map (λ (set : CountedSet). set.set) (take l.set-index l.sets)
