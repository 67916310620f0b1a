use Rattle.std.proofs.Common.{◌≡◌, ◌≤◌, filter, length, vec_capacity}
use Rattle.rbac_hierarchy.proofs.PairLemmas.{ArePairsUpTo}
use Rattle.rbac_hierarchy.proofs.RoomLemmas.{pairs_below}
use Rattle.rbac_hierarchy.proofs.bit_order.renewal.gather_pairs_above.Given as goal

abbrev pub invariant-loop-ascendant : goal.invariant-loop-ascendant
invariant-loop-ascendant g l = record {
  pairs : ArePairsUpTo l.numbers.keys (filter (g.T.KeyTest.passes l.kept) l.declared.content) l.inherited l.above l.ascendant l.pairs.items;
  not_more : length l.pairs.items ≤ pairs_below l.numbers.keys l.declared.content l.ascendant;
  capacity : vec_capacity l.pairs ≡ vec_capacity l.fn.pairs;
}
