use Rattle.std.proofs.Common.{◌≡◌, ap, sym, ◌∙◌, subst, OnOk}
use Rattle.std.specs.FinMap.Entries.{put}
use Rattle.sorted_keys.specs.Keys.{with_key, updated}
use Rattle.sorted_keys.specs.Row.{Row}
use Rattle.hashed_keys.specs.Pairs.{pairs_of, by_pair}
use Rattle.hashed_keys.proofs.PairCalls.{second_more, first_second, paired_inserted, pairs_inserted}
use Rattle.hashed_keys.proofs.pairs.HashedPairs.insert.Goals as goal

pub invariant_of-self : goal.invariant_of-self
invariant_of-self g c =
    let es = c.self.inside.sets.content in
    let is = second_more g.A.Ord.cmp g.B.Ord.cmp c.args.first c.args.second es (sym c.contains.ensures ∙ c.if-contains.true) in
    paired_inserted g.met.A.Ord.total g.met.B.Ord.total g.met.A.Exact.exact g.met.B.Exact.exact c.args.first c.args.second es c.update.new.self.content (updated g.A.Ord.cmp c.args.first (with_key g.B.Ord.cmp c.args.second) es) c.self.invariant is c.update.result c.update.ensures.updated c.update.ensures.unchanged

pub returns-then-contains-clause-added : goal.returns-then-contains-clause-added
returns-then-contains-clause-added g c =
    let es = c.self.inside.sets.content in
    let is = second_more g.A.Ord.cmp g.B.Ord.cmp c.args.first c.args.second es (sym c.contains.ensures ∙ c.if-contains.true) in
    subst (λ (seen : Row (g.row.A.Denot × g.row.B.Denot)). OnOk c.update.result (pairs_of c.update.new.self.content ≡ with_key (by_pair g.A.Ord.cmp g.B.Ord.cmp) (c.args.first, c.args.second) seen.content)) c.self.view_is
    (pairs_inserted g.met.A.Ord.total g.met.B.Ord.total g.met.A.Exact.exact g.met.B.Exact.exact c.args.first c.args.second es c.update.new.self.content (updated g.A.Ord.cmp c.args.first (with_key g.B.Ord.cmp c.args.second) es) c.self.invariant is c.update.result c.update.ensures.updated)

pub invariant_of-self-2 : goal.invariant_of-self-2
invariant_of-self-2 g c =
    let es = c.self.inside.sets.content in
    let one = c.in_ok-insert.ensures.added ∙ ap (with_key g.B.Ord.cmp c.args.second) c.new-set.ensures in
    let is = ap (λ set. put g.A.Ord.cmp c.args.first set es) one ∙ first_second g.A.Ord.cmp g.B.Ord.cmp c.args.first c.args.second es (sym c.contains.ensures ∙ c.if-contains.false) in
    paired_inserted g.met.A.Ord.total g.met.B.Ord.total g.met.A.Exact.exact g.met.B.Exact.exact c.args.first c.args.second es c.insert-2.new.self.content (put g.A.Ord.cmp c.args.first c.insert.new.self es) c.self.invariant is c.insert-2.result c.insert-2.ensures.put c.insert-2.ensures.unchanged

pub returns-clause-added : goal.returns-clause-added
returns-clause-added g c =
    let es = c.self.inside.sets.content in
    let one = c.in_ok-insert.ensures.added ∙ ap (with_key g.B.Ord.cmp c.args.second) c.new-set.ensures in
    let is = ap (λ set. put g.A.Ord.cmp c.args.first set es) one ∙ first_second g.A.Ord.cmp g.B.Ord.cmp c.args.first c.args.second es (sym c.contains.ensures ∙ c.if-contains.false) in
    subst (λ (seen : Row (g.row.A.Denot × g.row.B.Denot)). OnOk c.insert-2.result (pairs_of c.insert-2.new.self.content ≡ with_key (by_pair g.A.Ord.cmp g.B.Ord.cmp) (c.args.first, c.args.second) seen.content)) c.self.view_is
    (pairs_inserted g.met.A.Ord.total g.met.B.Ord.total g.met.A.Exact.exact g.met.B.Exact.exact c.args.first c.args.second es c.insert-2.new.self.content (put g.A.Ord.cmp c.args.first c.insert.new.self es) c.self.invariant is c.insert-2.result c.insert-2.ensures.put)
