use Rattle.std.proofs.Common.{◌≡◌, drop}
use Rattle.rbac_separation.specs.Numbered.{names_of}
use Rattle.rbac_separation.specs.Counts.{numbers_of, with_numbers, row_changes, HaveSamePlaces}
use Rattle.rbac_separation.proofs.counts.Counts.put_row.Given as goal

abbrev pub invariant-loop-k : goal.invariant-loop-k
invariant-loop-k l = record {
  places : HaveSamePlaces l.fn.self l.self;
  numbers : with_numbers (row_changes (names_of (drop l.k l.sets)) l.user.0 (drop l.k l.row)) (numbers_of l.self) ≡ with_numbers (row_changes (names_of l.sets) l.user.0 l.row) (numbers_of l.fn.self);
}
