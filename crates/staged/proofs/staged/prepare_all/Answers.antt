use Rattle.std.proofs.Common.{◌+◌, ap, sym, ◌∙◌, length-append}
use Rattle.staged.specs.Made.{made_all}
use Rattle.staged.proofs.MadeLemmas.{made-append, made_more}
use Rattle.staged.proofs.staged.prepare_all.Goals as goal

pub loop-change-preserved : goal.loop-change-preserved
loop-change-preserved g c =
    let content = g.S.Staged.content c.args.staged.now in
    let change = c.change-item.result in
    let made = g.S.Staged.made in
    let changed = g.S.Staged.changed in
    let before = c.loop-change.invariant.made in
    record {
      made =
          ap (λ t. made_all made t content) c.in_ok-plan.ensures
          ∙ made-append made c.loop-change.plan _ content
          ∙ c.in_ok-step.ensures
          ∙ ap (changed change) before
          ∙ sym (made_more changed c.args.changes.now c.loop-change.change-index change content c.loop-change-test.true c.change-item.is);
      length = rw c.in_ok-plan.ensures (length-append c.loop-change.plan _ ∙ ap (λ n. n + 1) c.loop-change.invariant.length);
    }
