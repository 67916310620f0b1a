use Rattle.std.proofs.Common.{rules, ◌<◌, length, true, sym, ◌∙◌}
use Rattle.hashed_keys.proofs.Listing.{first_of}
use Rattle.hashed_keys.proofs.Walks.{any_from}
use Rattle.hashed_keys.proofs.map.HashedMap.any.Goals as goal

pub returns-then-passes_at : goal.returns-then-passes_at
returns-then-passes_at g c =
    let es = c.args.self.now.content in
    let lt : c.loop-at.at < length es = search rules in
    let d = first_of es c.loop-at.at lt in
    sym (c.loop-at.invariant ∙ any_from (λ e. g.T.EntryTest.passes c.args.test.now e.0 e.1) es c.loop-at.at d true lt (sym (c.passes_at.ensures d) ∙ c.if-passes_at.true))

pub loop-at-preserved : goal.loop-at-preserved
loop-at-preserved g c =
    let es = c.args.self.now.content in
    let lt : c.loop-at.at < length es = search rules in
    let d = first_of es c.loop-at.at lt in
    c.loop-at.invariant ∙ any_from (λ e. g.T.EntryTest.passes c.args.test.now e.0 e.1) es c.loop-at.at d _ lt (sym (c.passes_at.ensures d) ∙ c.if-passes_at.false)
