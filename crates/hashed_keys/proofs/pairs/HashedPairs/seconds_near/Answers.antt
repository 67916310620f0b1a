use Rattle.std.proofs.Common.{ap, sym, ◌∙◌}
use Rattle.std.specs.Option.{option_copied}
use Rattle.sorted_keys.specs.Row.{Row}
use Rattle.hashed_keys.specs.Pairs.{found, seconds}
use Rattle.hashed_keys.proofs.PairChanges.{seconds_is}
use Rattle.hashed_keys.proofs.pairs.HashedPairs.seconds_near.Goals as goal

pub returns-in-Some : goal.returns-in-Some
returns-in-Some g c =
    let first = g.P.Probe.sought c.args.first.now in
    c.keys.ensures.keys
    ∙ ap (λ f. found (option_copied f)) (sym c.in-Some.is)
    ∙ ap found c.get_near.ensures
    ∙ sym (seconds_is g.met.A.Ord.total g.met.B.Ord.total g.met.A.Exact.exact g.met.B.Exact.exact first c.self.inside.sets.content c.self.invariant)
    ∙ ap (λ (seen : Row (g.row.A.Denot × g.row.B.Denot)). seconds g.A.Ord.cmp first seen.content) c.self.view_is

pub returns-in-None : goal.returns-in-None
returns-in-None g c =
    let first = g.P.Probe.sought c.args.first.now in
    ap (λ f. found (option_copied f)) (sym c.in-None.is)
    ∙ ap found c.get_near.ensures
    ∙ sym (seconds_is g.met.A.Ord.total g.met.B.Ord.total g.met.A.Exact.exact g.met.B.Exact.exact first c.self.inside.sets.content c.self.invariant)
    ∙ ap (λ (seen : Row (g.row.A.Denot × g.row.B.Denot)). seconds g.A.Ord.cmp first seen.content) c.self.view_is
