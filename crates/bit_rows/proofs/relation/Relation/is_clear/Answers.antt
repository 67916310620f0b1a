use Rattle.std.proofs.Common.{◌≡◌, ◌<◌, ◌≤◌, List, ℕ, [], get_or, length, ap, sym, ◌∙◌, arith}
use Rattle.std.proofs.lemmas.Bool.{eqb-true}
use Rattle.bit_rows.specs.Bits.{Rows, has_bit, related}
use Rattle.bit_rows.proofs.BitLemmas.{any_default, zero_word}
use Rattle.bit_rows.proofs.RowLemmas.{no_row}
use Rattle.bit_rows.proofs.relation.Relation.is_clear.Goals as goal

pub returns-then-first-len-clause-unrelated : goal.returns-then-first-len-clause-unrelated
returns-then-first-len-clause-unrelated c = λ clear j at.
    let rows = c.self.inside.rows.items in
    let past : length rows ≤ c.args.first = omega (arith, c.if-first-len.true, c.len.ensures) in
    sym (ap (λ (r : Rows). related r c.args.first j) c.self.view_is) ∙ no_row rows c.args.first j past

pub returns-else-first-len-clause-unrelated : goal.returns-else-first-len-clause-unrelated
returns-else-first-len-clause-unrelated c = λ clear j at.
    let rows = c.self.inside.rows.items in
    let row = c.index.result.now in
    let within : c.args.first < length rows = omega (arith, c.if-first-len.false, c.len.ensures) in
    let row_is : row ≡ get_or rows c.args.first [] = c.index.ensures ∙ any_default rows c.args.first row [] within in
    let zero : get_or row c.args.word 0 ≡ 0 = eqb-true _ _ (sym c.is_clear.ensures ∙ clear) in
    sym (ap (λ (r : Rows). related r c.args.first j) c.self.view_is)
    ∙ ap (λ (words : List ℕ). has_bit words j) (sym row_is)
    ∙ zero_word row j (ap (λ k. get_or row k 0) at ∙ zero)
