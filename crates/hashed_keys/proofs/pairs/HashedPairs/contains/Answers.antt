use Rattle.std.proofs.Common.{ap, sym, ◌∙◌}
use Rattle.std.specs.Option.{option_copied}
use Rattle.sorted_keys.specs.Keys.{has}
use Rattle.sorted_keys.specs.Row.{Row}
use Rattle.hashed_keys.specs.Pairs.{found}
use Rattle.hashed_keys.proofs.PairCalls.{contains_is}
use Rattle.hashed_keys.proofs.pairs.HashedPairs.contains.Goals as goal

pub returns-in-Some : goal.returns-in-Some
returns-in-Some g c =
    let pair : g.row.A.Denot × g.row.B.Denot = (g.P.Probe.sought c.args.first.now, g.Q.Probe.sought c.args.second.now) in
    c.contains.ensures
    ∙ ap (λ f. has g.B.Ord.cmp pair.1 (found (option_copied f))) (sym c.in-Some.is)
    ∙ contains_is g.met.A.Ord.total g.met.B.Ord.total g.met.A.Exact.exact g.met.B.Exact.exact pair c.self.inside.sets.content c.args.self.now.content (option_copied c.get.result) c.get.ensures c.self.invariant
    (ap (λ (seen : Row (g.row.A.Denot × g.row.B.Denot)). seen.content) c.self.view_is)

pub returns-in-None : goal.returns-in-None
returns-in-None g c =
    let pair : g.row.A.Denot × g.row.B.Denot = (g.P.Probe.sought c.args.first.now, g.Q.Probe.sought c.args.second.now) in
    ap (λ f. has g.B.Ord.cmp pair.1 (found (option_copied f))) (sym c.in-None.is)
    ∙ contains_is g.met.A.Ord.total g.met.B.Ord.total g.met.A.Exact.exact g.met.B.Exact.exact pair c.self.inside.sets.content c.args.self.now.content (option_copied c.get.result) c.get.ensures c.self.invariant
    (ap (λ (seen : Row (g.row.A.Denot × g.row.B.Denot)). seen.content) c.self.view_is)
