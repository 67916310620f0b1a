use Rattle.std.proofs.Common.{arith}
use Rattle.std.proofs.lemmas.List.{take_all}
use Rattle.rbac_reasons.proofs.MemberLemmas.{second_among, second_more}
use Rattle.rbac_reasons.proofs.pairs.seconds.Goals as goal

pub loop-pair-preserved : goal.loop-pair-preserved
loop-pair-preserved g c = λ name.
    rw c.in_ok-add_copy.ensures.added
    (second_more g.A.Ord.cmp name c.beginning_with-pair-items.result.now c.loop-pair.pair-index c.pair-item.result c.loop-pair.names c.loop-pair-test.true c.pair-item.is (c.loop-pair.invariant name))

pub returns : goal.returns
returns g c = λ name.
    let whole = take_all c.loop-pair.pair-index c.beginning_with-pair-items.result.now c.loop-pair-test.false in
    let among = second_among g.A.Ord.cmp (g.P.Probe.sought c.args.first.now) name c.args.pairs.now in
    grind (arith, c.loop-pair.invariant name, whole, c.beginning_with-pair-items.ensures, among)
