use Rattle.std.proofs.Common.{take}
use Rattle.rbac_hierarchy.specs.Walk.{FindsDescendants}
use Rattle.rbac_hierarchy.proofs.walk.find_descendants.Given as goal

abbrev pub invariant-loop-pair : goal.invariant-loop-pair
invariant-loop-pair l = FindsDescendants (take l.pair-index l.pairs) l.fn.found l.fn.pending.items l.found l.pending.items
