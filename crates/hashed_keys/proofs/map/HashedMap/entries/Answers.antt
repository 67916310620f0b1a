use Rattle.std.proofs.Common.{rules, ◌<◌, ◌++◌, ◌∷◌, [], length, take, ap, sym, ◌∙◌}
use Rattle.std.proofs.lemmas.List.{take_more}
use Rattle.hashed_keys.proofs.map.HashedMap.entries.Goals as goal

pub loop-at-preserved : goal.loop-at-preserved
loop-at-preserved g c =
    let es = c.args.self.now.content in
    let lt : c.loop-at.at < length es = search rules in
    let e = c.in_ok-duplicate.field-0 in
    c.in_ok-push.ensures.items
    ∙ ap (λ t. t ++ e ∷ []) c.loop-at.invariant
    ∙ ap (λ x. take c.loop-at.at es ++ x ∷ []) (c.in_ok-duplicate.ensures ∙ c.entry_at.ensures e)
    ∙ sym (take_more es c.loop-at.at e lt)
