use Rattle.std.proofs.Common.{rules, ◌<◌, ◌++◌, ◌∷◌, [], length, take, get_or, ap, sym, ◌∙◌, true≢false}
use Rattle.std.proofs.lemmas.List.{take_more}
use Rattle.hashed_keys.proofs.Listing.{first_of}
use Rattle.hashed_keys.proofs.map.HashedMap.same.Goals as goal

pub returns-then-not-same_entry : goal.returns-then-not-same_entry
returns-then-not-same_entry g c =
    let xs = c.args.self.now.content in
    let lt : c.loop-at.at < length xs = search rules in
    let d = first_of xs c.loop-at.at lt in (
      λ no. absurd (true≢false (sym no)),
      λ same. sym c.if-not-same_entry.true ∙ c.same_entry.ensures.1 (c.entry_at.ensures d ∙ ap (λ es. get_or es c.loop-at.at d) same ∙ sym (c.entry_at-in-loop-at.ensures d)),
    )

pub loop-at-preserved : goal.loop-at-preserved
loop-at-preserved g c =
    let xs = c.args.self.now.content in
    let ys = c.args.other.now.content in
    let lt : c.loop-at.at < length xs = search rules in
    let lt_other : c.loop-at.at < length ys = search rules in
    let d = first_of xs c.loop-at.at lt in
    let same = sym (c.entry_at.ensures d) ∙ c.same_entry.ensures.0 c.if-not-same_entry.false ∙ c.entry_at-in-loop-at.ensures d in
    take_more xs c.loop-at.at d lt
    ∙ ap (λ t. t ++ get_or xs c.loop-at.at d ∷ []) c.loop-at.invariant
    ∙ ap (λ x. take c.loop-at.at ys ++ x ∷ []) same
    ∙ sym (take_more ys c.loop-at.at d lt_other)
