use Rattle.std.proofs.Common.{◌≡◌, ◌<◌, ◌∙◌, ◌++◌, ◌∷◌, List, [], length, get_or, sym, ap, subst}
use Rattle.rbac_decide.proofs.Common.{has, Name, name_cmp, RoleSet}
use Rattle.rbac_decide.proofs.AffectedLemmas.{touched_more, untouched_more}
use Rattle.rbac_decide.proofs.counting.affected.touched_names.Goals as goal
use Rattle.rbac_decide.proofs.counting.affected.touched_names.Goals.{then-touches+in_ok-copy+in_ok-push, else-touches}

pub loop-entry-preserved : goal.loop-entry-preserved
loop-entry-preserved c =
    let below = c.args.below.now in
    let sets = c.args.tables.now.static_sets.content in
    let i = c.loop-entry.entry-index in
    let e = c.entry-item.result in
    let names = c.loop-entry.names.items in
    let same = c.entries-entry-items.ensures.entries in
    let lt : i < length sets = subst (λ (l : List (Name × RoleSet)). i < length l) same c.loop-entry-test.true in
    let is : e ≡ get_or sets i e = c.entry-item.is ∙ ap (λ (l : List (Name × RoleSet)). get_or l i e) same in
    elim c.if-touches.branch [
      | then-touches+in_ok-copy+in_ok-push w ↦ λ s.
          (λ j. has name_cmp s (w.names-is j).items)
          ∙ ap (has name_cmp s) (w.in_ok-push.ensures.items ∙ ap (λ (x : Name). names ++ x ∷ []) w.in_ok-copy.ensures)
          ∙ touched_more s below sets i e lt is names (c.loop-entry.invariant s) (sym c.touches.ensures ∙ w.if-touches.true)
      | else-touches w ↦ λ s.
          (λ j. has name_cmp s (w.names-is j).items)
          ∙ untouched_more s below sets i e lt is names (c.loop-entry.invariant s) (sym c.touches.ensures ∙ w.if-touches.false)
    ]
