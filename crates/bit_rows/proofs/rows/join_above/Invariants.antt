use Rattle.std.proofs.Common.{ℕ, ◌≡◌, ◌<◌, ◌||◌, ◌&&◌, length}
use Rattle.bit_rows.specs.Bits.{has_bit, bit, IsRelation}
use Rattle.bit_rows.proofs.RowLemmas.{AreDone}
use Rattle.bit_rows.proofs.rows.join_above.Given as goal

abbrev pub invariant-loop-at : goal.invariant-loop-at
invariant-loop-at l =
    let old = l.initial.rows in
    record {
      relation : IsRelation l.rows;
      rows : AreDone (λ i row. (j : ℕ) → j < length old → has_bit row j ≡ (bit old i j || (bit old i l.above && bit old l.below j))) old l.at l.rows;
    }
