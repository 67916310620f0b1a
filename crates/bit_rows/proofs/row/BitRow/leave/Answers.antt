use Rattle.std.proofs.Common.{◌≤◌, length, true, cond, nat_eq, ap, ◌∙◌, arith}
use Rattle.bit_rows.proofs.BitLemmas.{has_bit-zeros, or_alone}
use Rattle.bit_rows.proofs.row.BitRow.leave.Goals as goal

pub returns-clause-bits : goal.returns-clause-bits
returns-clause-bits c = λ j.
    let words = c.loop-k.self-inside.words.items in
    let all : length words ≤ c.loop-k.k = omega (arith, c.loop-k.invariant.0, c.loop-k-test.false, c.len-k-end.ensures) in
    c.set.ensures.bits j ∙ ap (cond (nat_eq j c.args.bit) true) (has_bit-zeros words c.loop-k.k j c.loop-k.invariant.1 all) ∙ or_alone (nat_eq j c.args.bit)
