use Rattle.std.proofs.Common.{◌≡◌, [], ap, sym, ◌∙◌, subst}
use Rattle.sorted_keys.specs.Row.{Row}
use Rattle.hashed_keys.specs.Pairs.{pairs_of, replaced, IsPaired}
use Rattle.hashed_keys.proofs.PairChanges.{paired_put, put_is}
use Rattle.hashed_keys.proofs.PairRemovals.{filled_is, not_filled, paired_without_key, key_out}
use Rattle.hashed_keys.proofs.pairs.HashedPairs.put.Goals as goal

pub invariant_of-self : goal.invariant_of-self
invariant_of-self g c =
    subst (IsPaired g.A.Ord.cmp g.B.Ord.cmp) (sym c.put.ensures.content)
    (paired_put g.met.A.Ord.total g.met.B.Ord.total g.met.A.Exact.exact g.met.B.Exact.exact c.args.first c.args.set c.self.inside.sets.content c.self.invariant c.keys-keys.ensures.in_order (filled_is c.args.set (sym c.is_filled.ensures ∙ c.if-is_filled.true)))

pub returns-then-is_filled-clause-content : goal.returns-then-is_filled-clause-content
returns-then-is_filled-clause-content g c =
    ap pairs_of c.put.ensures.content
    ∙ put_is g.met.A.Ord.total g.met.B.Ord.total g.met.A.Exact.exact g.met.B.Exact.exact c.args.first c.args.set c.self.inside.sets.content c.self.invariant c.keys-keys.ensures.in_order (filled_is c.args.set (sym c.is_filled.ensures ∙ c.if-is_filled.true))
    ∙ ap (λ (seen : Row (g.row.A.Denot × g.row.B.Denot)). replaced g.A.Ord.cmp g.B.Ord.cmp c.args.first c.args.set seen.content) c.self.view_is

pub invariant_of-self-else-is_filled : goal.invariant_of-self-else-is_filled
invariant_of-self-else-is_filled g c =
    subst (IsPaired g.A.Ord.cmp g.B.Ord.cmp) (sym c.remove.ensures.content) (paired_without_key g.A.Ord.cmp g.B.Ord.cmp c.args.first c.self.inside.sets.content c.self.invariant)

pub returns-else-is_filled-clause-content : goal.returns-else-is_filled-clause-content
returns-else-is_filled-clause-content g c =
    let none : c.args.set ≡ [] = not_filled c.args.set (sym c.is_filled.ensures ∙ c.if-is_filled.false) in
    ap pairs_of c.remove.ensures.content
    ∙ key_out g.met.A.Ord.total g.met.B.Ord.total g.met.A.Exact.exact g.met.B.Exact.exact c.args.first c.self.inside.sets.content c.self.invariant
    ∙ ap (λ (seen : Row (g.row.A.Denot × g.row.B.Denot)). replaced g.A.Ord.cmp g.B.Ord.cmp c.args.first [] seen.content) c.self.view_is
    ∙ ap (λ bs. replaced g.A.Ord.cmp g.B.Ord.cmp c.args.first bs c.args.self.now.content) (sym none)
