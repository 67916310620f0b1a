use Rattle.std.proofs.Common.{◌≡◌, ◌≤◌, ◌+◌, filter, length, take, vec_capacity}
use Rattle.rbac_hierarchy.specs.Renewal.{HasPairsOf}
use Rattle.rbac_hierarchy.proofs.bit_order.renewal.add_pairs.Given as goal

abbrev pub invariant-loop-pair : goal.invariant-loop-pair
invariant-loop-pair g l = record {
  pairs : HasPairsOf l.numbers.keys l.ascendant (filter (g.T.KeyTest.passes l.kept) (take l.pair-index l.declared)) l.fn.pairs.items l.pairs.items;
  not_more : length l.pairs.items ≤ length l.fn.pairs.items + l.pair-index;
  capacity : vec_capacity l.pairs ≡ vec_capacity l.fn.pairs;
}
