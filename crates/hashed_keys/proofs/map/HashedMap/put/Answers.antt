use Rattle.std.proofs.Common.{rules, ◌≤◌, length, is_some, ap, ◌∙◌, subst}
use Rattle.std.specs.FinMap.Entries.{put}
use Rattle.sorted_keys.specs.Place.{IsEntryGap}
use Rattle.slab.proofs.SlabLemmas.{Updates-with_value}
use Rattle.hashed_keys.specs.Listed.{listed}
use Rattle.hashed_keys.proofs.Listed.{gap_within, put_listed, insert_listed}
use Rattle.hashed_keys.proofs.map.HashedMap.put.Goals as goal

pub invariant_of-self : goal.invariant_of-self
invariant_of-self g c =
    let h = c.self.inside in
    let e = c.index_mut.result.now in
    (put_listed g.met.K.Ord.total c.args.key c.args.value h.entries _ h.order.items c.in-Ok.place e c.self.invariant c.in-Ok.ensures.found c.index_mut.ensures.value
    (Updates-with_value h.entries c.in-Ok.place (e.0, c.args.value) (ap is_some c.index_mut.ensures.value))).1

pub returns-in-Ok-clause-content : goal.returns-in-Ok-clause-content
returns-in-Ok-clause-content g c =
    let h = c.self.inside in
    let e = c.index_mut.result.now in
    (put_listed g.met.K.Ord.total c.args.key c.args.value h.entries _ h.order.items c.in-Ok.place e c.self.invariant c.in-Ok.ensures.found c.index_mut.ensures.value
    (Updates-with_value h.entries c.in-Ok.place (e.0, c.args.value) (ap is_some c.index_mut.ensures.value))).0
    ∙ ap (λ m. put g.K.Ord.cmp c.args.key c.args.value m.content) c.self.view_is

pub insert-requires : goal.insert-requires
insert-requires g c =
    let h = c.self.inside in
    let le : c.in-Err.at ≤ length h.order.items = gap_within g.met.K.Ord.total h.entries h.order.items c.args.key c.in-Err.at c.self.invariant (subst (λ order. IsEntryGap g.K.Ord.cmp c.args.key (listed h.entries order) c.in-Err.at) c.deref.ensures.value c.in-Err.ensures.gap) in
    search rules

pub invariant_of-self-in-Err : goal.invariant_of-self-in-Err
invariant_of-self-in-Err g c =
    let h = c.self.inside in
    let gap = subst (λ order. IsEntryGap g.K.Ord.cmp c.args.key (listed h.entries order) c.in-Err.at) c.deref.ensures.value c.in-Err.ensures.gap in
    rw (c.insert.ensures.items, c.unwrap.ensures)
    (insert_listed g.met.K.Ord.total c.args.key c.args.value h.entries c.insert_reserved-place.new.self h.order.items c.in-Err.at c.insert_reserved-place.result c.self.invariant gap c.insert_reserved-place.ensures.was_vacant c.insert_reserved-place.ensures.updates).1

pub returns-in-Err-clause-content : goal.returns-in-Err-clause-content
returns-in-Err-clause-content g c =
    let h = c.self.inside in
    let gap = subst (λ order. IsEntryGap g.K.Ord.cmp c.args.key (listed h.entries order) c.in-Err.at) c.deref.ensures.value c.in-Err.ensures.gap in
    rw (c.insert.ensures.items, c.unwrap.ensures)
    ((insert_listed g.met.K.Ord.total c.args.key c.args.value h.entries c.insert_reserved-place.new.self h.order.items c.in-Err.at c.insert_reserved-place.result c.self.invariant gap c.insert_reserved-place.ensures.was_vacant c.insert_reserved-place.ensures.updates).0
    ∙ ap (λ m. put g.K.Ord.cmp c.args.key c.args.value m.content) c.self.view_is)
