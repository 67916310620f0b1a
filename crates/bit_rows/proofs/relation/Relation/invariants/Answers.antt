use Rattle.std.proofs.Common.{ℕ, ◌<◌, IsTrue, subst}
use Rattle.bit_rows.specs.Bits.{Rows, count, related}
use Rattle.bit_rows.proofs.RowLemmas.{only_numbers}
use Rattle.bit_rows.proofs.relation.Relation.invariants.Goals as goal

pub returns : goal.returns
returns c = subst (λ (r : Rows). (i j : ℕ) → IsTrue (related r i j) → (i < count r) × (j < count r)) c.self.view_is (only_numbers c.self.inside.rows.items c.self.invariant.relation)
