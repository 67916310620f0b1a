use Rattle.std.proofs.Common.{rules, get_or, ap, sym, ◌∙◌}
use Rattle.hashed_keys.proofs.Listing.{Some-same}
use Rattle.hashed_keys.proofs.Listed.{within_order, indexed}
use Rattle.hashed_keys.proofs.map.HashedMap.entry_at.Goals as goal

pub index-requires : goal.index-requires
index-requires g c =
    let h = c.self.inside in
    let lt = within_order g.met.K.Ord.total h.entries h.order.items c.args.self.now.content c.args.at c.self.invariant (ap (λ m. m.content) c.self.view_is) c.requires in
    search rules

pub index-requires-2 : goal.index-requires-2
index-requires-2 g c =
    let h = c.self.inside in
    let lt = within_order g.met.K.Ord.total h.entries h.order.items c.args.self.now.content c.args.at c.self.invariant (ap (λ m. m.content) c.self.view_is) c.requires in
    (indexed g.met.K.Ord.total h.entries h.order.items c.args.at c.index.result.now c.self.invariant lt c.index.ensures).contained

pub returns : goal.returns
returns g c = λ d.
    let h = c.self.inside in
    let lt = within_order g.met.K.Ord.total h.entries h.order.items c.args.self.now.content c.args.at c.self.invariant (ap (λ m. m.content) c.self.view_is) c.requires in
    let at = indexed g.met.K.Ord.total h.entries h.order.items c.args.at c.index.result.now c.self.invariant lt c.index.ensures in
    Some-same (sym c.index-2.ensures ∙ at.is_there) ∙ sym (at.read d) ∙ ap (λ m. get_or m.content c.args.at d) c.self.view_is
