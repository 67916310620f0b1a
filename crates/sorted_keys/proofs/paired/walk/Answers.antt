use Rattle.std.proofs.Common.{◌||◌, refl, ap, sym, ◌∙◌}
use Rattle.std.specs.declared.cmp.Ordering.TheVariants.{Equal, Greater}
use Rattle.sorted_keys.proofs.SideBySide.{one_further, or_none}
use Rattle.sorted_keys.proofs.paired.walk.Goals.{in-Equal+then-passes, in-Equal+else-passes, in-Greater}
use Rattle.sorted_keys.proofs.paired.walk.Goals as goal

pub loop-at-preserved : goal.loop-at-preserved
loop-at-preserved g c =
    let passes = g.T.KeyTest.passes c.args.test.now in
    let further = one_further g.K.Ord.cmp passes c.args.key.now c.args.pairs.now c.loop-at.at c.loop-at.passes c.match-cmp.passes
    c.index-pairs-at.result c.loop-at-test.true c.index-pairs-at.is c.loop-at.invariant in
    elim c.match-cmp.branch [
      | in-Equal+then-passes w ↦ further Equal (sym w.in-Equal.is ∙ c.cmp.ensures) refl (w.passes-is ∙ w.if-passes.true ∙ ap (λ b. b || passes c.index-pairs-at.result.1) (sym w.if-passes.true))
      | in-Equal+else-passes w ↦ further Equal (sym w.in-Equal.is ∙ c.cmp.ensures) refl (w.passes-is ∙ w.test-passes.ensures ∙ ap (λ b. b || passes c.index-pairs-at.result.1) (sym w.if-passes.false))
      | in-Greater w ↦ further Greater (sym w.in-Greater.is ∙ c.cmp.ensures) refl (w.passes-is ∙ sym (or_none c.loop-at.passes))
    ]
