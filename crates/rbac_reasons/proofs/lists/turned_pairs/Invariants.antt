use Rattle.std.proofs.Common.{◌≡◌, map, take}
use Rattle.rbac_reasons.specs.Lists.{turned}
use Rattle.rbac_reasons.proofs.lists.turned_pairs.Given as goal

-- the pairs so far
abbrev pub invariant-loop-pair : goal.invariant-loop-pair
invariant-loop-pair l = l.others.items ≡ map turned (take l.pair-index l.pairs)
