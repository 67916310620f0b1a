use Rattle.std.proofs.Common.{ℕ, ◌≡◌, cond, nat_eq}
use Rattle.bit_rows.specs.Bits.{has_bit, bit}
use Rattle.bit_rows.proofs.RowLemmas.{AreDone}
use Rattle.bit_rows.proofs.rows.reset_above.Given as goal

abbrev pub invariant-loop-at : goal.invariant-loop-at
invariant-loop-at l =
    let old = l.initial.rows in
    AreDone (λ i row. (j : ℕ) → has_bit row j ≡ cond (bit old i l.above) (nat_eq j i) (bit old i j)) old l.at l.rows
