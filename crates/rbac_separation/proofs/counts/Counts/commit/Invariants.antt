use Rattle.std.proofs.Common.{◌≡◌, drop}
use Rattle.rbac_separation.specs.Numbered.{names_of}
use Rattle.rbac_separation.specs.Counts.{numbers_of, with_numbers, changes_of, HaveSamePlaces}
use Rattle.rbac_separation.proofs.counts.Counts.commit.Given as goal

abbrev pub invariant-loop-k : goal.invariant-loop-k
invariant-loop-k l = record {
  places : HaveSamePlaces l.fn.self l.self;
  numbers : with_numbers (changes_of (names_of l.plan.sets.items) (names_of (drop l.k l.plan.users.items)) (drop l.k l.rows)) (numbers_of l.self) ≡ with_numbers (changes_of (names_of l.plan.sets.items) (names_of l.plan.users.items) l.rows) (numbers_of l.fn.self);
}
