use Rattle.std.proofs.Common.{Bool, ◌+◌, ◌≡◌, ◌<◌, ◌∙◌, ◌||◌, ◌&&◌, List, length, get_or, drop, sym, ap, subst}
use Rattle.rbac_decide.proofs.Common.{has, Name, name_cmp}
use Rattle.rbac_decide.proofs.CountingLemmas.{dropped}
use Rattle.rbac_decide.proofs.FreshLemmas.{kept_one, kept_none}
use Rattle.rbac_decide.proofs.authorization.add_where.Goals as goal
use Rattle.rbac_decide.proofs.authorization.add_where.Goals.{then-test+in_ok-add_copy, else-test}

pub loop-name-preserved : goal.loop-name-preserved
loop-name-preserved g c =
    let passes : Name → Bool = g.T.KeyTest.passes c.args.test.now in
    let names = c.args.names.now in
    let i = c.loop-name.name-index in
    let x = c.name-item.result in
    let kept = c.loop-name.kept in
    let rest = drop (i + 1) names in
    let same = c.names-name-items.ensures.names in
    let lt : i < length names = subst (λ (l : List Name). i < length l) same c.loop-name-test.true in
    let is : x ≡ get_or names i x = c.name-item.is ∙ ap (λ (l : List Name). get_or l i x) same in
    let all : Name → Bool = λ r. has name_cmp r c.args.kept.now || (has name_cmp r names && passes r) in
    let so_far = λ (r : Name). ap (λ (l : List Name). has name_cmp r kept || (has name_cmp r l && passes r)) (sym (dropped names i x lt is)) ∙ c.loop-name.invariant r in
    elim c.if-test.branch [
      | then-test+in_ok-add_copy w ↦ λ r.
          ap (λ (l : List Name). has name_cmp r l || (has name_cmp r rest && passes r)) (w.kept-is ∙ w.in_ok-add_copy.ensures.added)
          ∙ kept_one passes x rest kept all so_far (sym c.test.ensures ∙ w.if-test.true) r
      | else-test w ↦ λ r.
          ap (λ (l : List Name). has name_cmp r l || (has name_cmp r rest && passes r)) w.kept-is
          ∙ kept_none passes x rest kept all so_far (sym c.test.ensures ∙ w.if-test.false) r
    ]
