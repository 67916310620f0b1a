use Rattle.std.proofs.Common.{ℕ, ◌≡◌, ◌<◌, ◌≤◌, ◌*◌, IsTrue, true, false, [], length, get_or}
use Rattle.bit_rows.specs.Bits.{bit, first_of, second_of}
use Rattle.bit_rows.specs.Room.{unset_of_all, ArePreserved}
use Rattle.bit_rows.proofs.RowLemmas.{IsLeast}
use Rattle.bit_rows.proofs.rows.join_pairs.Given as goal

abbrev pub invariant-loop-pair : goal.invariant-loop-pair
invariant-loop-pair l =
    let old = l.fn.rows in
    record {
      lengths : ArePreserved old l.rows;
      still : (i j : ℕ) → IsTrue (bit old i j) → IsTrue (bit l.rows i j);
      least : IsLeast old l.pairs l.rows;
      fewer : l.grown ≡ true → unset_of_all l.rows < unset_of_all old;
      not_more : unset_of_all l.rows ≤ unset_of_all old;
      joined : l.grown ≡ false → (k : ℕ) → k < l.pair-index → (j : ℕ) → j < 64 * length (get_or l.rows (first_of l.pairs k) []) → IsTrue (bit l.rows (second_of l.pairs k) j) → IsTrue (bit l.rows (first_of l.pairs k) j);
    }
