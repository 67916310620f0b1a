use Rattle.std.proofs.Common.{ap, ◌∙◌, sym, ◌≤◌, ◌<◌, ◌/◌, ◌%◌, ◌^◌, bit_and, nat_eq, length, arith}
use Rattle.std.proofs.lemmas.Bool.{le-ltb}
use Rattle.bit_rows.specs.Bits.{has_bit}
use Rattle.bit_rows.proofs.BitLemmas.{has_bit-tested, has_bit-past, any_default}
use Rattle.bit_rows.proofs.row.BitRow.has.Goals as goal

pub returns-then-bit-len : goal.returns-then-bit-len
returns-then-bit-len c =
    let words = c.self.inside.words.items in
    let bit = c.args.bit in
    let within : bit / 64 < length words = omega (arith, c.if-bit-len.true, c.len.ensures) in
    ap (λ w. nat_eq (bit_and (w / 2 ^ (bit % 64)) 1) 1) (c.index.ensures ∙ any_default words (bit / 64) c.index.result.now 0 within)
    ∙ has_bit-tested words bit ∙ ap (λ words. has_bit words bit) c.self.view_is

pub returns-else-bit-len : goal.returns-else-bit-len
returns-else-bit-len c =
    let words = c.self.inside.words.items in
    let bit = c.args.bit in
    let past : length words ≤ bit / 64 = omega (arith, c.if-bit-len.false, c.len.ensures) in
    le-ltb _ _ c.if-bit-len.false ∙ sym (has_bit-past words bit past) ∙ ap (λ words. has_bit words bit) c.self.view_is
