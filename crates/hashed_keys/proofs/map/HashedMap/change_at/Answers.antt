use Rattle.std.proofs.Common.{rules, get_or, set, ap, sym, ◌∙◌}
use Rattle.slab.proofs.SlabLemmas.{Updates-with_value}
use Rattle.hashed_keys.specs.Listed.{listed}
use Rattle.hashed_keys.proofs.Listed.{within_order, indexed, set_listed}
use Rattle.hashed_keys.proofs.map.HashedMap.change_at.Goals as goal

pub index-place-requires : goal.index-place-requires
index-place-requires g c =
    let h = c.self.inside in
    let lt = within_order g.met.K.Ord.total h.entries h.order.items c.args.self.now.content c.args.at c.self.invariant (ap (λ m. m.content) c.self.view_is) c.requires in
    search rules

pub index_mut-requires : goal.index_mut-requires
index_mut-requires g c =
    let h = c.self.inside in
    let lt = within_order g.met.K.Ord.total h.entries h.order.items c.args.self.now.content c.args.at c.self.invariant (ap (λ m. m.content) c.self.view_is) c.requires in
    (indexed g.met.K.Ord.total h.entries h.order.items c.args.at c.index-place.result.now c.self.invariant lt c.index-place.ensures).contained

pub invariant_of-self : goal.invariant_of-self
invariant_of-self g c =
    let h = c.self.inside in
    let lt = within_order g.met.K.Ord.total h.entries h.order.items c.args.self.now.content c.args.at c.self.invariant (ap (λ m. m.content) c.self.view_is) c.requires in
    let at = indexed g.met.K.Ord.total h.entries h.order.items c.args.at c.index-place.result.now c.self.invariant lt c.index-place.ensures in
    let e = c.index_mut.result.now in
    (set_listed g.met.K.Ord.total c.change.new.value h.entries _ h.order.items c.args.at c.index-place.result.now e c.self.invariant lt c.index-place.ensures c.index_mut.ensures.value
    (Updates-with_value h.entries c.index-place.result.now (e.0, c.change.new.value) at.contained)).1

pub returns-clause-content : goal.returns-clause-content
returns-clause-content g c = λ d.
    let h = c.self.inside in
    let same = ap (λ m. m.content) c.self.view_is in
    let lt = within_order g.met.K.Ord.total h.entries h.order.items c.args.self.now.content c.args.at c.self.invariant same c.requires in
    let at = indexed g.met.K.Ord.total h.entries h.order.items c.args.at c.index-place.result.now c.self.invariant lt c.index-place.ensures in
    let e = c.index_mut.result.now in
    let changed = (set_listed g.met.K.Ord.total c.change.new.value h.entries _ h.order.items c.args.at c.index-place.result.now e c.self.invariant lt c.index-place.ensures c.index_mut.ensures.value
    (Updates-with_value h.entries c.index-place.result.now (e.0, c.change.new.value) at.contained)).0 d in
    let to = g.C.EachChange.changed c.args.change.now in
    changed.0
    ∙ ap (λ v. set (listed h.entries h.order.items) c.args.at ((get_or (listed h.entries h.order.items) c.args.at d).0, v)) (c.change.ensures ∙ ap (λ x. to x.1) (sym changed.1))
    ∙ ap (λ es. set es c.args.at ((get_or es c.args.at d).0, to (get_or es c.args.at d).1)) same
