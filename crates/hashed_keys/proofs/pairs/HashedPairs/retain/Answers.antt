use Rattle.std.proofs.Common.{ap, sym, ◌∙◌, subst}
use Rattle.std.specs.List.{filter}
use Rattle.sorted_keys.specs.Row.{Row}
use Rattle.hashed_keys.specs.Pairs.{pairs_of, IsPaired, is_filled}
use Rattle.hashed_keys.proofs.PairRemovals.{paired_kept, pairs_of-filled, pairs_of-kept}
use Rattle.hashed_keys.proofs.pairs.HashedPairs.retain.Goals as goal

pub invariant_of-self : goal.invariant_of-self
invariant_of-self g c =
    let kept = c.retain.ensures.content ∙ ap (filter (λ e. is_filled e.1)) c.change_each.ensures.content in
    subst (IsPaired g.A.Ord.cmp g.B.Ord.cmp) (sym kept) (paired_kept g.A.Ord.cmp g.B.Ord.cmp (g.T.KeyTest.passes c.args.test.now) c.self.inside.sets.content c.self.invariant)

pub returns-clause-content : goal.returns-clause-content
returns-clause-content g c =
    let passes = g.T.KeyTest.passes c.args.test.now in
    ap pairs_of c.retain.ensures.content
    ∙ pairs_of-filled c.change_each.new.self.content
    ∙ ap pairs_of c.change_each.ensures.content
    ∙ pairs_of-kept passes c.self.inside.sets.content
    ∙ ap (λ (seen : Row (g.row.A.Denot × g.row.B.Denot)). filter (λ p. passes p.1) seen.content) c.self.view_is
