use Rattle.std.proofs.Common.{ap, sym, ◌∙◌}
use Rattle.sorted_keys.specs.Row.{Row}
use Rattle.hashed_keys.specs.Pairs.{found, seconds}
use Rattle.hashed_keys.proofs.PairChanges.{seconds_is}
use Rattle.hashed_keys.proofs.pairs.HashedPairs.set.Goals as goal

pub returns : goal.returns
returns g c =
    let first = g.P.Probe.sought c.args.first.now in
    ap found c.get.ensures
    ∙ sym (seconds_is g.met.A.Ord.total g.met.B.Ord.total g.met.A.Exact.exact g.met.B.Exact.exact first c.self.inside.sets.content c.self.invariant)
    ∙ ap (λ (seen : Row (g.row.A.Denot × g.row.B.Denot)). seconds g.A.Ord.cmp first seen.content) c.self.view_is
