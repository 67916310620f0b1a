use Rattle.std.proofs.Common.{rules, ap, sym, ◌∙◌}
use Rattle.std.specs.List.{remove}
use Rattle.hashed_keys.specs.Listed.{listed}
use Rattle.hashed_keys.proofs.Listed.{within_order, indexed, remove_listed}
use Rattle.hashed_keys.proofs.map.HashedMap.take_at.Goals as goal

pub remove-place-requires : goal.remove-place-requires
remove-place-requires g c =
    let h = c.self.inside in
    let lt = within_order g.met.K.Ord.total h.entries h.order.items c.args.self.now.content c.args.at c.self.invariant (ap (λ m. m.content) c.self.view_is) c.requires in
    search rules

pub remove-entry-requires : goal.remove-entry-requires
remove-entry-requires g c =
    let h = c.self.inside in
    let lt = within_order g.met.K.Ord.total h.entries h.order.items c.args.self.now.content c.args.at c.self.invariant (ap (λ m. m.content) c.self.view_is) c.requires in
    (indexed g.met.K.Ord.total h.entries h.order.items c.args.at c.remove-place.result c.self.invariant lt c.remove-place.ensures.value).contained

pub invariant_of-self : goal.invariant_of-self
invariant_of-self g c =
    let h = c.self.inside in
    let lt = within_order g.met.K.Ord.total h.entries h.order.items c.args.self.now.content c.args.at c.self.invariant (ap (λ m. m.content) c.self.view_is) c.requires in
    rw c.remove-place.ensures.items
    (remove_listed g.met.K.Ord.total h.entries c.remove-entry.new.self h.order.items c.args.at c.remove-place.result c.self.invariant lt (sym c.remove-place.ensures.value) c.remove-entry.ensures.updates).1

pub returns-clause-content : goal.returns-clause-content
returns-clause-content g c =
    let h = c.self.inside in
    let same = ap (λ m. m.content) c.self.view_is in
    let lt = within_order g.met.K.Ord.total h.entries h.order.items c.args.self.now.content c.args.at c.self.invariant same c.requires in
    ap (listed c.remove-entry.new.self) c.remove-place.ensures.items
    ∙ (remove_listed g.met.K.Ord.total h.entries c.remove-entry.new.self h.order.items c.args.at c.remove-place.result c.self.invariant lt (sym c.remove-place.ensures.value) c.remove-entry.ensures.updates).0
    ∙ ap (λ es. remove es c.args.at) same
