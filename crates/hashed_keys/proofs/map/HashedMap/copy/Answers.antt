use Rattle.std.proofs.Common.{rules, ◌≡◌, ◌<◌, length, subst, ap, ◌∙◌}
use Rattle.std.specs.List.Sorted.{IsStrictlySortedBy}
use Rattle.sorted_keys.specs.Keys.{by_key}
use Rattle.hashed_keys.proofs.Walks.{copied_next}
use Rattle.hashed_keys.proofs.map.HashedMap.copy.Goals as goal

pub loop-at-preserved : goal.loop-at-preserved
loop-at-preserved g c =
    let es = c.args.self.now.content in
    let lt : c.loop-at.at < length es = search rules in
    let key = c.in_ok-duplicate.ensures in
    let value = c.in_ok-duplicate-2.ensures in
    let e : g.row.K.Denot × g.row.V.Denot = (c.in_ok-duplicate.field-0, c.in_ok-duplicate-2.field-0) in
    let same : e ≡ c.entry_at-entry.result.now = λ i. (key i, value i) in
    let sorted = subst (IsStrictlySortedBy (by_key g.K.Ord.cmp)) (ap (λ m. m.content) c.self.view_is) c.self.invariant.in_order in
    c.in_ok-insert.ensures.put ∙ copied_next g.met.K.Ord.total es c.loop-at.copy.content c.loop-at.at e sorted lt c.loop-at.invariant (same ∙ c.entry_at-entry.ensures e)
