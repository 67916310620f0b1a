use Rattle.std.proofs.Common.{◌+◌, ◌++◌, ◌∙◌, ◌∷◌, List, [], drop, sym, ap}
use Rattle.rbac_decide.proofs.Common.{Name, RoleSet, touched_sets}
use Rattle.rbac_decide.proofs.TouchedLemmas.{one_touched, none_touched}
use Rattle.rbac_decide.proofs.touched.touched_sets.Goals as goal
use Rattle.rbac_decide.proofs.touched.touched_sets.Goals.{then-touches+in_ok-cut_to+in_ok-push, else-touches}

pub loop-entry-preserved : goal.loop-entry-preserved
loop-entry-preserved c =
    let below = c.args.below.now in
    let sets = c.args.sets.now in
    let i = c.loop-entry.entry-index in
    let e = c.entry-item.result in
    let so_far = c.loop-entry.touched.items in
    let all = touched_sets below sets in
    let rest = touched_sets below (drop (i + 1) sets) in
    elim c.if-touches.branch [
      | then-touches+in_ok-cut_to+in_ok-push w ↦
          (λ j. (w.touched-is j).items ++ rest)
          ∙ ap (λ (l : List (Name × RoleSet)). l ++ rest) w.in_ok-push.ensures.items
          ∙ ap (λ (x : Name × RoleSet). (so_far ++ x ∷ []) ++ rest) w.in_ok-cut_to.ensures
          ∙ one_touched below sets i e c.loop-entry-test.true c.entry-item.is so_far all c.loop-entry.invariant (sym c.touches.ensures ∙ w.if-touches.true)
      | else-touches w ↦
          (λ j. (w.touched-is j).items ++ rest)
          ∙ none_touched below sets i e c.loop-entry-test.true c.entry-item.is so_far all c.loop-entry.invariant (sym c.touches.ensures ∙ w.if-touches.false)
    ]
