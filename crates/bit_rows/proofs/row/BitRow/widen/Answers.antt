use Rattle.std.proofs.Common.{◌≤◌, ◌-◌, ◌++◌, length, replicate, ap, ◌∙◌, arith}
use Rattle.std.proofs.lemmas.List.{take_all}
use Rattle.bit_rows.specs.Bits.{has_bit}
use Rattle.bit_rows.proofs.BitLemmas.{has_bit-wider}
use Rattle.bit_rows.proofs.row.BitRow.widen.Goals as goal

pub returns-in_ok-resize-clause-bits : goal.returns-in_ok-resize-clause-bits
returns-in_ok-resize-clause-bits c = λ j.
    let words = c.self.inside.words in
    let short : length words.items ≤ c.args.words = omega (arith, c.if-len-words.true, c.len.ensures, words.ok.0) in
    ap (λ words. has_bit words j) (c.in_ok-resize.ensures.items ∙ ap (λ kept. kept ++ replicate (c.args.words - words.len) 0) (take_all c.args.words words.items short))
    ∙ has_bit-wider words.items (c.args.words - words.len) j ∙ ap (λ words. has_bit words j) c.self.view_is
