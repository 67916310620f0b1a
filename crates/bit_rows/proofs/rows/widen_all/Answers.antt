use Rattle.std.proofs.Common.{◌≡◌, ◌<◌, ◌≤◌, ◌∙◌, [], length, get_or, subst, sym, ap, arith}
use Rattle.bit_rows.specs.Bits.{has_bit}
use Rattle.bit_rows.proofs.BitLemmas.{any_default}
use Rattle.bit_rows.proofs.RowLemmas.{widened_more, wide_more, same_bits}
use Rattle.bit_rows.proofs.rows.widen_all.Goals as goal

pub loop-at-preserved : goal.loop-at-preserved
loop-at-preserved c =
    let rows = c.loop-at.rows in
    let at = c.loop-at.at in
    let so_far = c.loop-at.invariant in
    let within : at < length rows = subst (λ n. at < n) (sym so_far.widened.rows) c.loop-at-test.true in
    let was : get_or rows at c.index-rows-at.result ≡ get_or rows at [] = any_default rows at c.index-rows-at.result [] within in
    record {
      widened = widened_more rows at c.widen.new.self within c.args.rows.now so_far.widened (subst (λ row. length row ≤ length c.widen.new.self) was c.widen.ensures.not_narrower);
      wide = wide_more rows at c.widen.new.self within c.args.words so_far.wide c.in_ok-widen.ensures.wide;
      bits = λ i j. same_bits rows at c.widen.new.self within (λ j. c.widen.ensures.bits j ∙ ap (λ row. has_bit row j) was) i j ∙ so_far.bits i j;
    }

pub returns-clause-wide : goal.returns-clause-wide
returns-clause-wide c = λ i lt.
    let enough : c.args.words ≤ length (get_or c.loop-at.rows i []) = c.loop-at.invariant.wide i (omega (arith, lt, c.loop-at-test.false, c.loop-at.auto.rows)) in
    omega (arith, enough)
