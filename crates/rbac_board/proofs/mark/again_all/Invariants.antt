use Rattle.std.proofs.Common.{◌≡◌, take}
use Rattle.rbac_board.proofs.mark.again_all.Given as goal

abbrev pub invariant-loop-sight : goal.invariant-loop-sight
invariant-loop-sight g l = record {
  again : l.copies.items ≡ take l.sight-index l.fn.sights;
  unchanged : l.sights ≡ l.fn.sights;
}
