use Rattle.std.proofs.Common.{ap, ◌∙◌, sym, ◌≤◌, ◌<◌, nat_eq, length, arith}
use Rattle.std.proofs.lemmas.Bool.{le-leb}
use Rattle.bit_rows.specs.Bits.{is_clear}
use Rattle.bit_rows.proofs.BitLemmas.{past_end, any_default}
use Rattle.bit_rows.proofs.row.BitRow.is_clear.Goals as goal

pub returns-then-word-len : goal.returns-then-word-len
returns-then-word-len c =
    let words = c.self.inside.words.items in
    let word = c.args.word in
    let past : length words ≤ word = omega (arith, c.if-word-len.true, c.len.ensures) in
    le-leb _ _ c.if-word-len.true ∙ sym (ap (λ w. nat_eq w 0) (past_end words word 0 past)) ∙ ap (λ words. is_clear words word) c.self.view_is

pub returns-else-word-len : goal.returns-else-word-len
returns-else-word-len c =
    let words = c.self.inside.words.items in
    let word = c.args.word in
    let within : word < length words = omega (arith, c.if-word-len.false, c.len.ensures) in
    ap (λ w. nat_eq w 0) (c.index.ensures ∙ any_default words word c.index.result.now 0 within) ∙ ap (λ words. is_clear words word) c.self.view_is
