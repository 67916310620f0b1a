use Rattle.std.proofs.Common.{arith, add-one, ◌∙◌}
use Rattle.std.proofs.lemmas.List.{set-get_or}
use Rattle.rbac_board.proofs.ImageLemmas.{same_at, same_more}
use Rattle.rbac_board.proofs.mark.compare_all.Goals as goal

pub compare-requires : goal.compare-requires
compare-requires g c =
    let kept = c.loop-at.invariant in
    same_at (λ s. s.cell) c.loop-at.mine c.loop-at.theirs c.loop-at.at _ _ (rw (kept.mine, kept.theirs) c.requires) (omega arith) (omega arith)

pub loop-at-preserved : goal.loop-at-preserved
loop-at-preserved g c =
    let kept = c.loop-at.invariant in
    let value = rw (kept.mine, kept.theirs) at c.compare.ensures.value in record {
      agree = rw add-one (same_more (λ s. s.value) c.args.mine.now c.args.theirs.now c.loop-at.at _ _ (omega arith) (omega arith) kept.agree value);
      mine = rw c.compare.ensures.unchanged (set-get_or c.loop-at.mine c.loop-at.at c.index-mine-at.result ∙ kept.mine);
      theirs = rw c.compare.ensures.other_unchanged (set-get_or c.loop-at.theirs c.loop-at.at c.index-theirs-at.result ∙ kept.theirs);
    }
