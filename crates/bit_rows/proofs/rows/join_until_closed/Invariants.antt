use Rattle.std.proofs.Common.{ℕ, IsTrue}
use Rattle.bit_rows.specs.Bits.{bit}
use Rattle.bit_rows.specs.Room.{unset_of_all, ArePreserved}
use Rattle.bit_rows.proofs.RowLemmas.{IsLeast}
use Rattle.bit_rows.proofs.rows.join_until_closed.Given as goal

abbrev pub invariant-loop : goal.invariant-loop
invariant-loop l = record {
  lengths : ArePreserved l.initial.rows l.rows;
  still : (i j : ℕ) → IsTrue (bit l.initial.rows i j) → IsTrue (bit l.rows i j);
  least : IsLeast l.initial.rows l.pairs l.rows;
}

abbrev pub decreases-loop : goal.decreases-loop
decreases-loop l = unset_of_all l.rows
