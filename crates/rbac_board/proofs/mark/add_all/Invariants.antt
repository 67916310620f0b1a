use Rattle.std.proofs.Common.{◌≡◌, ◌≤◌, ◌+◌, ◌-◌, ◌++◌, take, length, vec_len, vec_capacity}
use Rattle.rbac_board.proofs.mark.add_all.Given as goal

abbrev pub invariant-loop-sight : goal.invariant-loop-sight
invariant-loop-sight g l = record {
  added : l.sights.items ≡ l.fn.sights.items ++ take l.sight-index l.fn.others;
  room : (length l.fn.others - l.sight-index) + vec_len l.sights ≤ vec_capacity l.sights;
  unchanged : l.others ≡ l.fn.others;
}
