use Rattle.std.proofs.Common.{ap, sym, ◌∙◌, subst}
use Rattle.std.specs.FinMap.Entries.{find}
use Rattle.sorted_keys.specs.Keys.{without, without_key}
use Rattle.sorted_keys.specs.Row.{Row}
use Rattle.hashed_keys.specs.Pairs.{pairs_of, by_pair, IsPaired}
use Rattle.hashed_keys.proofs.PairCalls.{is_last, paired_left, paired_gone, pairs_gone}
use Rattle.hashed_keys.proofs.PairRemovals.{pair_out}
use Rattle.hashed_keys.proofs.pairs.HashedPairs.remove.Goals as goal

pub invariant_of-self : goal.invariant_of-self
invariant_of-self g c =
    let a = g.P.Probe.sought c.args.first.now in
    let b = g.Q.Probe.sought c.args.second.now in
    let after = c.remove.ensures.content ∙ ap (without_key g.A.Ord.cmp a) c.in-Ok.ensures.updated in
    subst (IsPaired g.A.Ord.cmp g.B.Ord.cmp) (sym after) (paired_gone g.met.A.Ord.total g.met.B.Ord.total g.met.A.Exact.exact g.met.B.Exact.exact a b c.self.inside.sets.content c.self.invariant)

pub invariant_of-self-else-is_emptied : goal.invariant_of-self-else-is_emptied
invariant_of-self-else-is_emptied g c =
    let a = g.P.Probe.sought c.args.first.now in
    let b = g.Q.Probe.sought c.args.second.now in
    let after = c.in-Ok.ensures.updated in
    let last = ap (λ es. is_last (find g.A.Ord.cmp a es)) (sym after) ∙ sym c.is_emptied.ensures ∙ c.if-is_emptied.false in
    subst (IsPaired g.A.Ord.cmp g.B.Ord.cmp) (sym after) (paired_left g.met.A.Ord.total g.met.B.Ord.total g.met.A.Exact.exact g.met.B.Exact.exact a b c.self.inside.sets.content c.self.invariant last)

pub returns-then-is_emptied-clause-content : goal.returns-then-is_emptied-clause-content
returns-then-is_emptied-clause-content g c =
    let a = g.P.Probe.sought c.args.first.now in
    let b = g.Q.Probe.sought c.args.second.now in
    let es = c.self.inside.sets.content in
    let after = c.in-Ok.ensures.updated in
    let last = ap (λ es. is_last (find g.A.Ord.cmp a es)) (sym after) ∙ sym c.is_emptied.ensures ∙ c.if-is_emptied.true in
    ap pairs_of (c.remove.ensures.content ∙ ap (without_key g.A.Ord.cmp a) after)
    ∙ pairs_gone g.met.A.Ord.total g.met.B.Ord.total g.met.A.Exact.exact g.met.B.Exact.exact a b es c.self.invariant last
    ∙ ap (λ (seen : Row (g.row.A.Denot × g.row.B.Denot)). without (by_pair g.A.Ord.cmp g.B.Ord.cmp) (a, b) seen.content) c.self.view_is

pub returns-else-is_emptied-clause-content : goal.returns-else-is_emptied-clause-content
returns-else-is_emptied-clause-content g c =
    let a = g.P.Probe.sought c.args.first.now in
    let b = g.Q.Probe.sought c.args.second.now in
    ap pairs_of c.in-Ok.ensures.updated
    ∙ pair_out g.met.A.Ord.total g.met.B.Ord.total g.met.A.Exact.exact g.met.B.Exact.exact a b c.self.inside.sets.content c.self.invariant
    ∙ ap (λ (seen : Row (g.row.A.Denot × g.row.B.Denot)). without (by_pair g.A.Ord.cmp g.B.Ord.cmp) (a, b) seen.content) c.self.view_is
