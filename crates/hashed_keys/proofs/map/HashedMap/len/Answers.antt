use Rattle.std.proofs.Common.{rules, ◌≡◌, length, ap, sym, ◌∙◌}
use Rattle.slab.specs.Slab.{get}
use Rattle.hashed_keys.proofs.Listing.{listed-length}
use Rattle.hashed_keys.proofs.Listed.{are_kept}
use Rattle.hashed_keys.proofs.map.HashedMap.len.Goals as goal

pub returns : goal.returns
returns g c =
    let h = c.self.inside in
    let places : c.len.result ≡ length h.order.items = search rules in
    places ∙ sym (listed-length (get h.entries) h.order.items (are_kept g.met.K.Ord.total h.entries h.order.items c.self.invariant)) ∙ ap (λ m. length m.content) c.self.view_is
