use Rattle.std.proofs.Common.{take, ap, sym, ◌∙◌}
use Rattle.std.specs.FinMap.Entries.{find}
use Rattle.staged.specs.Entries.{after_entries, with_entry}
use Rattle.staged.proofs.MadeLemmas.{made_more}
use Rattle.staged.proofs.entries.found_later.Goals as goal

pub loop-step-preserved : goal.loop-step-preserved
loop-step-preserved g c = λ before at_first.
    let cmp = g.K.Ord.cmp in
    let step = c.step-item.result in
    let earlier = after_entries cmp (take c.loop-step.step-index c.args.steps.now) before in
    let after = made_more (λ step. with_entry cmp step.0 step.1) c.args.steps.now c.loop-step.step-index step before c.loop-step-test.true c.step-item.is in
    c.found_next-found.ensures earlier (c.loop-step.invariant before at_first)
    ∙ sym (ap (find cmp c.args.key.now) after)
