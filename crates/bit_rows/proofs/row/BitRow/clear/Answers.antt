use Rattle.std.proofs.Common.{◌<◌, ◌*◌, ◌/◌, ◌%◌, ◌^◌, ◌-◌, length, slice_set, bit_and, subst, sym, false, cond, nat_eq, ap, ◌∙◌, arith}
use Rattle.bit_rows.specs.Bits.{has_bit}
use Rattle.bit_rows.proofs.BitLemmas.{has_bit-cleared, any_default}
use Rattle.bit_rows.proofs.row.BitRow.clear.Goals as goal

pub returns-clause-bits : goal.returns-clause-bits
returns-clause-bits c = λ j.
    let words = c.self.inside.words.items in
    let bit = c.args.bit in
    let asked = subst (λ words. bit < 64 * length words) (sym c.self.view_is) c.requires in
    let within : bit / 64 < length words = omega (arith, asked) in
    ap (λ w. has_bit (slice_set words (bit / 64) (bit_and w (2 ^ 64 - 1 - 1 * 2 ^ (c.args.bit % 64) % 2 ^ 64))) j) (c.index-word.ensures ∙ any_default words (bit / 64) c.index-word.result.now 0 within)
    ∙ has_bit-cleared words bit j within ∙ ap (λ words. cond (nat_eq j bit) false (has_bit words j)) c.self.view_is
