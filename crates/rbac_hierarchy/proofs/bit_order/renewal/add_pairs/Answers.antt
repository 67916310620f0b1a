use Rattle.std.proofs.Common.{◌∷◌, ◌++◌, [], filter, length-append, take, subst, sym, ◌∙◌, arith}
use Rattle.rbac_hierarchy.specs.Renewal.{HasPairsOf}
use Rattle.rbac_hierarchy.proofs.PairLemmas.{one_pair_more, pair_among, none_kept, one_kept}
use Rattle.rbac_hierarchy.proofs.bit_order.renewal.add_pairs.Goals as goal
use Rattle.rbac_hierarchy.proofs.bit_order.renewal.add_pairs.Goals.{then-test, else-test}

pub number-requires : goal.number-requires
number-requires g c = c.requires.descendants c.pair-item.result.0 c.pair-item.result.1 (pair_among c.args.declared.now c.loop-pair.pair-index c.pair-item.result c.loop-pair-test.true c.pair-item.is)

pub loop-pair-preserved : goal.loop-pair-preserved
loop-pair-preserved g c =
    let test = g.T.KeyTest.passes c.args.kept.now in
    let names = c.args.numbers.now.keys in
    let so_far = filter test (take c.loop-pair.pair-index c.args.declared.now) in
    let was = c.loop-pair.invariant in
    elim c.if-test.branch [
      | then-test w ↦
          rw (w.pairs-is, w.push_reserved.ensures.items)
          (record {
            pairs = subst (λ pairs. HasPairsOf names c.args.ascendant pairs c.args.pairs.now.items (c.loop-pair.pairs.items ++ (c.args.ascendant, w.number.result) ∷ []))
                (sym (one_kept test c.args.declared.now c.loop-pair.pair-index c.pair-item.result c.loop-pair-test.true c.pair-item.is (sym c.test.ensures ∙ w.if-test.true)))
                (one_pair_more names c.args.ascendant so_far c.args.pairs.now.items c.loop-pair.pairs.items was.pairs c.pair-item.result w.number.result w.number.ensures.in_range w.number.ensures.role);
            not_more = omega (arith, was.not_more, length-append c.loop-pair.pairs.items ((c.args.ascendant, w.number.result) ∷ []));
            capacity = w.push_reserved.ensures.capacity ∙ was.capacity;
          })
      | else-test w ↦
          rw w.pairs-is
          (record {
            pairs = subst (λ pairs. HasPairsOf names c.args.ascendant pairs c.args.pairs.now.items c.loop-pair.pairs.items)
                (sym (none_kept test c.args.declared.now c.loop-pair.pair-index c.pair-item.result c.loop-pair-test.true c.pair-item.is (sym c.test.ensures ∙ w.if-test.false)))
                was.pairs;
            not_more = omega (arith, was.not_more);
            capacity = was.capacity;
          })
    ]
