use Rattle.std.proofs.Common.{subst}
use Rattle.std.specs.List.Sorted.{IsStrictlySortedBy}
use Rattle.sorted_keys.specs.Row.{Row}
use Rattle.hashed_keys.specs.Pairs.{by_pair}
use Rattle.hashed_keys.proofs.PairChanges.{pairs_sorted}
use Rattle.hashed_keys.proofs.pairs.HashedPairs.invariants.Goals as goal

pub returns : goal.returns
returns g c =
    subst (λ (seen : Row (g.row.A.Denot × g.row.B.Denot)). IsStrictlySortedBy (by_pair g.A.Ord.cmp g.B.Ord.cmp) seen.content) c.self.view_is
    (pairs_sorted g.met.A.Ord.total g.met.B.Ord.total g.met.A.Exact.exact g.met.B.Exact.exact c.self.inside.sets.content c.self.invariant)
