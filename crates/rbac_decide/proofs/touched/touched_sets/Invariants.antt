use Rattle.std.proofs.Common.{◌≡◌, ◌++◌, drop}
use Rattle.rbac_decide.proofs.Common.{touched_sets}
use Rattle.rbac_decide.proofs.touched.touched_sets.Given as goal

abbrev pub invariant-loop-entry : goal.invariant-loop-entry
invariant-loop-entry l = l.touched.items ++ touched_sets l.below (drop l.entry-index l.sets) ≡ touched_sets l.below l.sets
