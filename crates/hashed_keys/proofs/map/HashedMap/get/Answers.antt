use Rattle.std.proofs.Common.{ap, sym, ◌∙◌}
use Rattle.std.specs.FinMap.Entries.{find}
use Rattle.std.specs.Option.{option_copied, option_map}
use Rattle.hashed_keys.proofs.Listed.{find_listed}
use Rattle.hashed_keys.proofs.map.HashedMap.get.Goals as goal

pub returns-in-Some : goal.returns-in-Some
returns-in-Some g c =
    let h = c.self.inside in
    let sought = g.P.Probe.sought c.args.probe.now in
    ap (option_map (λ e. e.1)) (sym (ap option_copied c.in-Some.is) ∙ c.get.ensures)
    ∙ find_listed g.met.K.Ord.total sought h.entries h.order.items c.in-Ok.place c.self.invariant c.in-Ok.ensures.found
    ∙ ap (λ m. find g.K.Ord.cmp sought m.content) c.self.view_is
