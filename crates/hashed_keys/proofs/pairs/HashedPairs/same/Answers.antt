use Rattle.std.proofs.Common.{ap, sym, ◌∙◌}
use Rattle.sorted_keys.specs.Row.{Row}
use Rattle.hashed_keys.specs.Pairs.{pairs_of}
use Rattle.hashed_keys.proofs.PairRemovals.{same_maps}
use Rattle.hashed_keys.proofs.pairs.HashedPairs.same.Goals as goal

pub returns : goal.returns
returns g c =
    let mine = ap (λ (seen : Row (g.row.A.Denot × g.row.B.Denot)). seen.content) c.self.view_is in
    let theirs = ap (λ (seen : Row (g.row.A.Denot × g.row.B.Denot)). seen.content) c.other.view_is in (
      λ t. sym mine ∙ ap pairs_of (c.same.ensures.0 t) ∙ theirs,
      λ e. c.same.ensures.1 (same_maps g.met.A.Ord.total g.met.B.Ord.total g.met.A.Exact.exact g.met.B.Exact.exact c.self.inside.sets.content c.other.inside.sets.content c.self.invariant c.other.invariant (mine ∙ e ∙ sym theirs)),
    )
