use Rattle.std.proofs.Common.{sym, ◌∙◌}
use Rattle.rbac_hierarchy.proofs.Kept.{one_more}
use Rattle.rbac_hierarchy.proofs.WalkLemmas.{finds_none, finds_known, finds_more}
use Rattle.rbac_hierarchy.proofs.walk.find_descendants.Goals as goal
use Rattle.rbac_hierarchy.proofs.walk.find_descendants.Goals.{then-not-contains+in_ok-copy+in_ok-add+in_ok-copy-2+in_ok-push, else-not-contains}

pub loop-pair-init : goal.loop-pair-init
loop-pair-init c = finds_none _ _

pub loop-pair-preserved : goal.loop-pair-preserved
loop-pair-preserved c =
    let p = c.pair-item.result in
    rw (one_more c.args.pairs.now c.loop-pair.pair-index p c.loop-pair-test.true c.pair-item.is)
    (elim c.if-not-contains.branch [
      | then-not-contains+in_ok-copy+in_ok-add+in_ok-copy-2+in_ok-push w ↦ rw (w.found-is, w.pending-is, w.in_ok-add.ensures.added, w.in_ok-push.ensures.items, w.in_ok-copy.ensures, w.in_ok-copy-2.ensures) (finds_more _ _ _ _ _ p c.loop-pair.invariant (sym c.contains.ensures ∙ w.if-not-contains.true))
      | else-not-contains w ↦ rw (w.found-is, w.pending-is) (finds_known _ _ _ _ _ p c.loop-pair.invariant (sym c.contains.ensures ∙ w.if-not-contains.false))
    ])
