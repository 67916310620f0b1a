use Rattle.std.proofs.Common.{rules, ◌<◌, ◌≤◌, length, ap, sym, ◌∙◌, arith}
use Rattle.std.specs.List.{slice_get}
use Rattle.std.proofs.lemmas.Option.{slice_get_past}
use Rattle.slab.specs.Slab.{get}
use Rattle.hashed_keys.specs.Listed.{listed}
use Rattle.hashed_keys.proofs.Listing.{listed-found, listed-length}
use Rattle.hashed_keys.proofs.Listed.{are_kept, indexed}
use Rattle.hashed_keys.proofs.map.HashedMap.at.Goals as goal

pub returns-then-place-len : goal.returns-then-place-len
returns-then-place-len g c =
    let h = c.self.inside in
    let o = g.met.K.Ord.total in
    let lt : c.args.place < length h.order.items = search rules in
    let at = indexed o h.entries h.order.items c.args.place c.index.result.now c.self.invariant lt c.index.ensures in
    c.get.ensures
    ∙ sym (listed-found (get h.entries) h.order.items c.args.place c.index.result.now (are_kept o h.entries h.order.items c.self.invariant) at.placed)
    ∙ ap (λ m. slice_get m.content c.args.place) c.self.view_is

pub returns-else-place-len : goal.returns-else-place-len
returns-else-place-len g c =
    let h = c.self.inside in
    let le : length h.order.items ≤ c.args.place = search rules in
    let len = listed-length (get h.entries) h.order.items (are_kept g.met.K.Ord.total h.entries h.order.items c.self.invariant) in
    sym (slice_get_past (listed h.entries h.order.items) c.args.place (omega (arith, le, len)))
    ∙ ap (λ m. slice_get m.content c.args.place) c.self.view_is
