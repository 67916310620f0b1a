use Rattle.std.proofs.Common.{◌∙◌, ◌++◌, ◌∷◌, [], map, take, sym, ap}
use Rattle.rbac_decide.proofs.Common.{CountedSet, map-append, one_more}
use Rattle.rbac_decide.proofs.gains.names_of.Goals as goal

pub loop-set-preserved : goal.loop-set-preserved
loop-set-preserved c =
    let sets = c.args.sets.now in
    let i = c.loop-set.set-index in
    let set = c.set-item.result in
    c.in_ok-push.ensures.items
    ∙ (λ t. c.loop-set.invariant t ++ c.in_ok-copy.ensures t ∷ [])
    ∙ sym (map-append (λ (x : CountedSet). x.set) (take i sets) (set ∷ []))
    ∙ sym (ap (map (λ (x : CountedSet). x.set)) (one_more sets i set c.loop-set-test.true c.set-item.is))
