use Rattle.std.proofs.Common.{None}
use Rattle.rbac_reasons.proofs.WalkLemmas.{IsWalk, weight}
use Rattle.rbac_reasons.proofs.walk.find_chain.Given as goal

abbrev pub invariant-loop-role : goal.invariant-loop-role
invariant-loop-role l = IsWalk l.starts l.goals l.declared None l.walk

abbrev pub decreases-loop-role : goal.decreases-loop-role
decreases-loop-role l = weight l.declared l.walk
