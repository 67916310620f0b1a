use Rattle.std.proofs.Common.{◌≤◌, length, ap, sym, ◌∙◌, arith}
use Rattle.std.proofs.lemmas.Bool.{le-ltb}
use Rattle.bit_rows.specs.Bits.{Rows, related}
use Rattle.bit_rows.proofs.RowLemmas.{no_row}
use Rattle.bit_rows.proofs.relation.Relation.has.Goals as goal

pub returns-else-first-len : goal.returns-else-first-len
returns-else-first-len c =
    let rows = c.self.inside.rows.items in
    let past : length rows ≤ c.args.first = omega (arith, c.if-first-len.false, c.len.ensures) in
    le-ltb _ _ c.if-first-len.false ∙ sym (no_row rows c.args.first c.args.second past) ∙ ap (λ (r : Rows). related r c.args.first c.args.second) c.self.view_is
