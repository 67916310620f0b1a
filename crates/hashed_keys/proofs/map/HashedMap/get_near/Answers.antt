use Rattle.std.proofs.Common.{◌≡◌, Some, Ok, ap, sym, ◌∙◌}
use Rattle.std.specs.declared.cmp.Ordering.TheVariants.{Equal}
use Rattle.std.specs.Cmp.{Equal-is}
use Rattle.std.specs.List.{slice_get}
use Rattle.std.specs.Option.{option_copied}
use Rattle.std.proofs.lemmas.Option.{get_or_from_slice_get, slice_get_within}
use Rattle.sorted_keys.proofs.EntryPlace.{entry_place}
use Rattle.hashed_keys.proofs.map.HashedMap.get_near.Goals as goal

pub returns-in-Some : goal.returns-in-Some
returns-in-Some g c =
    let es = c.args.self.now.content in
    let sought = g.P.Probe.sought c.args.probe.now in
    let e = c.in-Some.entry.now in
    let there : slice_get es c.args.place ≡ Some e = sym c.at.ensures ∙ ap option_copied c.in-Some.is in
    let read = λ (d : g.row.K.Denot × g.row.V.Denot). get_or_from_slice_get es c.args.place e d there in
    let tied : g.K.Ord.cmp e.0 sought ≡ Equal = sym c.compare.ensures ∙ (Equal-is _).0 (sym c.is_eq.ensures ∙ c.if-is_eq.true) in
    let stands = (entry_place g.met.K.Ord.total sought es (Ok c.args.place) c.invariants.ensures (slice_get_within es c.args.place e there) (λ d. rw (read d) tied)).0 in
    ap (λ (x : g.row.K.Denot × g.row.V.Denot). Some x.1) (sym (read e)) ∙ sym (stands.present e)
