use Rattle.std.proofs.Common.{arith, [], ◌∷◌, ◌++◌, ap, sym, ◌∙◌, take, drop, true, false}
use Rattle.std.proofs.lemmas.List.{take_rest}
use Rattle.sorted_keys.proofs.SideBySide.{has_own, one_key_further, copies_in_order}
use Rattle.sorted_keys.proofs.paired.duplicate_paired.Goals.{then-walked+in_ok-duplicate+in_ok-push, else-walked}
use Rattle.sorted_keys.proofs.paired.duplicate_paired.Goals as goal

pub loop-key-preserved : goal.loop-key-preserved
loop-key-preserved g c =
    let passes = g.T.KeyTest.passes c.args.test.now in
    let ahead = c.loop-key.ahead.now in
    let key = c.key-item.result in
    let walk = c.walk-walked in
    let found = ap (λ n. has_own g.K.Ord.cmp passes (take n ahead) key) (sym walk.ensures.len) ∙ sym walk.ensures.passes in
    let further = one_key_further g.met.K.Ord.total g.V.Ord.cmp passes c.args.keys.now c.args.pairs.now c.loop-key.key-index c.loop-key.copy.items c.if-walked.copy.items
    ahead _ key c.requires.keys c.loop-key-test.true c.key-item.is
    (take_rest ahead walk.result.len ∙ ap (λ n. drop n ahead) walk.ensures.len) c.loop-key.invariant in
    elim c.if-walked.branch [
      | then-walked+in_ok-duplicate+in_ok-push w ↦ further true (found ∙ w.if-walked.true) (ap (λ copy. copy.items) w.copy-is ∙ w.in_ok-push.ensures.items ∙ ap (λ key. c.loop-key.copy.items ++ key ∷ []) w.in_ok-duplicate.ensures)
      | else-walked w ↦ further false (found ∙ w.if-walked.false) (ap (λ copy. copy.items) w.copy-is)
    ]

pub returns-clause-in_order : goal.returns-clause-in_order
returns-clause-in_order g c =
    rw c.shrink_to_fit.ensures.items (copies_in_order g.met.K.Ord.total g.V.Ord.cmp (g.T.KeyTest.passes c.args.test.now) c.args.keys.now c.args.pairs.now c.loop-key.key-index c.loop-key.copy.items
    c.loop-key.ahead.now c.requires.keys (omega (arith, c.loop-key-test.false)) c.loop-key.invariant)
