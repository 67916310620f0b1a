use Rattle.std.proofs.Common.{ℕ, ◌≡◌, cond, nat_eq, false}
use Rattle.bit_rows.specs.Bits.{has_bit, bit}
use Rattle.bit_rows.proofs.RowLemmas.{AreDone}
use Rattle.bit_rows.proofs.rows.move_bits.Given as goal

abbrev pub invariant-loop-at : goal.invariant-loop-at
invariant-loop-at l =
    let old = l.initial.rows in
    AreDone (λ i row. (j : ℕ) → has_bit row j ≡ cond (nat_eq j l.from) false (cond (nat_eq j l.to) (bit old i l.from) (bit old i j))) old l.at l.rows
