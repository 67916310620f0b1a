use Rattle.std.proofs.Common.{sym, subst}
use Rattle.bit_rows.specs.Bits.{AreBelow}
use Rattle.bit_rows.proofs.RowLemmas.{preserved_twice, relation_least, all_joined}
use Rattle.bit_rows.proofs.rows.join_until_closed.Goals as goal

pub loop-preserved : goal.loop-preserved
loop-preserved c =
    let so_far = c.loop.invariant in
    let step = c.join_pairs.ensures in
    record {
      lengths = preserved_twice c.args.rows.now c.loop.rows c.join_pairs.new.rows so_far.lengths step.lengths;
      still = λ i j is. step.still i j (so_far.still i j is);
      least = λ R inside joins. step.least R (so_far.least R inside joins) joins;
    }

pub returns-clause-joined : goal.returns-clause-joined
returns-clause-joined c =
    let so_far = c.loop.invariant in
    let step = c.join_pairs.ensures in
    let old = c.args.rows.now in
    let new = c.join_pairs.new.rows in
    let lengths = preserved_twice old c.loop.rows new so_far.lengths step.lengths in
    let pairs = c.args.pairs.now in
    all_joined new pairs
    (relation_least old new pairs c.requires.relation lengths (λ R inside joins. step.least R (so_far.least R inside joins) joins))
    (subst (AreBelow pairs) (sym lengths.rows) c.requires.below)
    (step.joined c.loop-test.false)

pub returns-clause-least : goal.returns-clause-least
returns-clause-least c = λ R inside joins. c.join_pairs.ensures.least R (c.loop.invariant.least R inside joins) joins
