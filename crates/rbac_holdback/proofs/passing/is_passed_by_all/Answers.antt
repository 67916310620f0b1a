use Rattle.std.proofs.Common.{true, false, sym, ◌∙◌}
use Rattle.rbac_holdback.proofs.PassedLemmas.{passed_step}
use Rattle.rbac_holdback.proofs.passing.is_passed_by_all.Goals as goal

pub loop-place-preserved : goal.loop-place-preserved
loop-place-preserved c =
    sym (passed_step c.args.me c.args.latest.now c.args.held.now.stamp c.loop-place.place c.loop-place-test.true true (sym c.passes.ensures ∙ c.if-not-passes.false))
    ∙ c.loop-place.invariant

pub returns-then-not-passes : goal.returns-then-not-passes
returns-then-not-passes c =
    sym (passed_step c.args.me c.args.latest.now c.args.held.now.stamp c.loop-place.place c.loop-place-test.true false (sym c.passes.ensures ∙ c.if-not-passes.true))
    ∙ c.loop-place.invariant
