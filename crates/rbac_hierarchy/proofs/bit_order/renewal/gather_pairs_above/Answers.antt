use Rattle.std.proofs.Common.{◌<◌, ◌+◌, [], length, filter, sym, ap, ◌∙◌, subst, arith}
use Rattle.std.specs.Ordering.{eq_by_cmp}
use Rattle.std.proofs.lemmas.Option.{get_or_from_slice_get}
use Rattle.rbac_terms.specs.Name.{name_cmp}
use Rattle.rbac_hierarchy.proofs.NumberLemmas.{has_role}
use Rattle.rbac_hierarchy.proofs.PairLemmas.{fewer, more_above, not_above}
use Rattle.rbac_hierarchy.proofs.RoomLemmas.{next_pairs, no_fewer_pairs, not_more_pairs}
use Rattle.rbac_hierarchy.proofs.bit_order.renewal.gather_pairs_above.Goals as goal
use Rattle.rbac_hierarchy.proofs.bit_order.renewal.gather_pairs_above.Goals.{then-has, else-has}

pub add_pairs-requires-clause-descendants : goal.add_pairs-requires-clause-descendants
add_pairs-requires-clause-descendants g c = λ a d m.
    sym (has_role c.args.numbers.now.keys d)
    ∙ (c.requires.exact.ranges a d (fewer c.args.declared.now.content (λ pair. eq_by_cmp name_cmp c.index.result.now pair.0) (a, d) (rw c.beginning_with-of_ascendant.ensures at m))).1

pub add_pairs-requires-clause-room : goal.add_pairs-requires-clause-room
add_pairs-requires-clause-room g c =
    let names = c.args.numbers.now.keys in
    let declared = c.args.declared.now.content in
    let at = c.loop-ascendant.ascendant in
    let lt : at < length names = subst (λ n. at < n) c.len-ascendant-end.ensures.len c.loop-ascendant-test.true in
    let next = next_pairs names declared at lt c.requires.exact.numbered c.index.result.now (get_or_from_slice_get names at _ [] c.index.ensures) in
    omega (arith, next, ap length c.beginning_with-of_ascendant.ensures, c.loop-ascendant.invariant.not_more, c.loop-ascendant.invariant.capacity, not_more_pairs names declared (at + 1), c.requires.room)

pub loop-ascendant-preserved : goal.loop-ascendant-preserved
loop-ascendant-preserved g c =
    let names = c.args.numbers.now.keys in
    let declared = c.args.declared.now.content in
    let at = c.loop-ascendant.ascendant in
    let test = g.T.KeyTest.passes c.args.kept.now in
    let was = c.loop-ascendant.invariant in
    let lt : at < length names = subst (λ n. at < n) c.len-ascendant-end.ensures.len c.loop-ascendant-test.true in
    elim c.if-has.branch [
      | then-has w ↦
          let is = get_or_from_slice_get names at _ [] w.index.ensures in
          let of_ascendant = w.beginning_with-of_ascendant.ensures in
          let next = next_pairs names declared at lt c.requires.exact.numbered w.index.result.now is in
          rw w.pairs-is
          (record {
            pairs = more_above names declared test c.args.inherited.now c.args.above at lt c.requires.exact.numbered w.index.result.now is
                c.loop-ascendant.pairs.items _ (rw of_ascendant at w.add_pairs.ensures.pairs) was.pairs;
            not_more = omega (arith, next, ap length of_ascendant, w.add_pairs.ensures.not_more, was.not_more);
            capacity = w.add_pairs.ensures.capacity ∙ was.capacity;
          })
      | else-has w ↦
          rw w.pairs-is
          (record {
            pairs = not_above names (filter test declared) c.args.inherited.now c.args.above at c.loop-ascendant.pairs.items (sym c.has.ensures ∙ w.if-has.false) was.pairs;
            not_more = omega (arith, no_fewer_pairs names declared at lt, was.not_more);
            capacity = was.capacity;
          })
    ]
