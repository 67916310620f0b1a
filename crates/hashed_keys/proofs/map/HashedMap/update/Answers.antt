use Rattle.std.proofs.Common.{◌≡◌, OnOk, OnErr, is_some, ap, subst}
use Rattle.slab.proofs.SlabLemmas.{Updates-with_value}
use Rattle.slab.specs.Slab.{with_value}
use Rattle.sorted_keys.specs.Keys.{updated}
use Rattle.hashed_keys.specs.Listed.{listed}
use Rattle.hashed_keys.proofs.Listed.{put_listed, update_listed}
use Rattle.hashed_keys.proofs.map.HashedMap.update.Goals as goal

pub invariant_of-self : goal.invariant_of-self
invariant_of-self g c =
    let h = c.self.inside in
    let e = c.index_mut.result.now in
    (put_listed g.met.K.Ord.total (g.P.Probe.sought c.args.probe.now) c.change.new.value h.entries _ h.order.items c.in-Ok.place e c.self.invariant c.in-Ok.ensures.found c.index_mut.ensures.value
    (Updates-with_value h.entries c.in-Ok.place (e.0, c.change.new.value) (ap is_some c.index_mut.ensures.value))).1

pub returns-in-Ok-clause-updated : goal.returns-in-Ok-clause-updated
returns-in-Ok-clause-updated g c =
    let h = c.self.inside in
    let e = c.index_mut.result.now in
    let sought = g.P.Probe.sought c.args.probe.now in
    let change = g.C.ValueChange.changed c.args.change in
    let after = with_value h.entries c.in-Ok.place (e.0, c.change.new.value) in
    subst (λ es. OnOk c.change.result (listed after h.order.items ≡ updated g.K.Ord.cmp sought change es)) (ap (λ m. m.content) c.self.view_is)
    (update_listed g.met.K.Ord.total sought change c.change.new.value h.entries after h.order.items c.in-Ok.place e c.change.result c.self.invariant c.in-Ok.ensures.found c.index_mut.ensures.value
    (Updates-with_value h.entries c.in-Ok.place (e.0, c.change.new.value) (ap is_some c.index_mut.ensures.value)) c.change.ensures.changed c.change.ensures.unchanged).0

pub returns-in-Ok-clause-unchanged : goal.returns-in-Ok-clause-unchanged
returns-in-Ok-clause-unchanged g c =
    let h = c.self.inside in
    let e = c.index_mut.result.now in
    let sought = g.P.Probe.sought c.args.probe.now in
    let change = g.C.ValueChange.changed c.args.change in
    let after = with_value h.entries c.in-Ok.place (e.0, c.change.new.value) in
    subst (λ es. OnErr c.change.result (listed after h.order.items ≡ es)) (ap (λ m. m.content) c.self.view_is)
    (update_listed g.met.K.Ord.total sought change c.change.new.value h.entries after h.order.items c.in-Ok.place e c.change.result c.self.invariant c.in-Ok.ensures.found c.index_mut.ensures.value
    (Updates-with_value h.entries c.in-Ok.place (e.0, c.change.new.value) (ap is_some c.index_mut.ensures.value)) c.change.ensures.changed c.change.ensures.unchanged).1
