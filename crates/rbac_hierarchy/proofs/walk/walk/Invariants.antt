use Rattle.std.proofs.Common.{◌+◌, length}
use Rattle.rbac_hierarchy.specs.Walk.{unfound}
use Rattle.rbac_hierarchy.proofs.WalkLemmas.{IsWalk}
use Rattle.rbac_hierarchy.proofs.walk.walk.Given as goal

abbrev pub invariant-loop-ascendant : goal.invariant-loop-ascendant
invariant-loop-ascendant l = IsWalk l.declared.content l.role l.found l.pending.items

abbrev pub decreases-loop-ascendant : goal.decreases-loop-ascendant
decreases-loop-ascendant l = unfound l.found l.declared.content + length l.pending.items
