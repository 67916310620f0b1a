use Rattle.std.proofs.Common.{ℕ, ◌≡◌, ◌&&◌, ◌==◌, cond, ltb, length}
use Rattle.rbac_separation.specs.Counts.{number_in}
use Rattle.rbac_separation.proofs.row.forget_place.Given as goal

abbrev pub invariant-loop-at : goal.invariant-loop-at
invariant-loop-at l = record {
  rows_kept : length l.rows.items ≡ length l.fn.rows.items;
  numbers : (i j : ℕ) → number_in l.rows.items i j ≡ cond (ltb j l.at && l.place == i) 0 (number_in l.fn.rows.items i j);
}
