use Rattle.std.proofs.Common.{arith}
use Rattle.bit_rows.proofs.RowLemmas.{no_rows}
use Rattle.bit_rows.proofs.relation.Relation.new.Goals as goal

pub invariant_of-result : goal.invariant_of-result
invariant_of-result c = rw (c.new.ensures.items, c.new-2.ensures.items) (record { relation = no_rows; wide = λ i lt. absurd (omega arith); spare_wide = λ i lt. absurd (omega arith) })
