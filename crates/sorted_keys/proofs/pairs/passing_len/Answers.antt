use Rattle.std.proofs.Common.{rules, Bool, true, false, ◌≤◌, ◌<◌, ◌≡◌, ◌∙◌, subst, length, arith}
use Rattle.std.specs.Ordering.{is_le}
use Rattle.std.specs.List.Sorted.{IsPartitionedBy, IsPartitionPoint}
use Rattle.std.proofs.lemmas.List.{take_rest}
use Rattle.std.proofs.lemmas.List.Sorted.{IsPartitionPoint-from_clause}
use Rattle.sorted_keys.proofs.Beginning.{parted_dropped, ends_near, ends_beyond}
use Rattle.sorted_keys.proofs.pairs.passing_len.Goals as goal

pub returns-then-len-near-clause-passing : goal.returns-then-len-near-clause-passing
returns-then-len-near-clause-passing g c parted =
    let passes : g.row.A.Denot × g.row.B.Denot → Bool = λ p. is_le (g.A.Ord.cmp p.0 (g.P.Probe.sought c.args.first.now)) in
    let n = c.min-near.result in
    c.front_len-len.ensures ∙ ends_near passes c.args.pairs.now n (omega (arith, c.min-near.ensures)) (subst (λ m. m < n) c.front_len-len.ensures c.if-len-near.true)

pub returns-clause-passing : goal.returns-clause-passing
returns-clause-passing g c parted =
    let passes : g.row.A.Denot × g.row.B.Denot → Bool = λ p. is_le (g.A.Ord.cmp p.0 (g.P.Probe.sought c.args.first.now)) in
    let n = c.min-near.result in
    let j = c.partition_point.result in
    let xs = c.args.pairs.now in
    let whole = take_rest xs n in
    let bound = subst (λ ys. j ≤ length ys) whole c.partition_point.ensures.bound in
    let partitioned = subst (λ ys. IsPartitionedBy passes ys → IsPartitionPoint (λ p. passes p ≡ true) (λ p. passes p ≡ false) ys j) whole
    (λ parted_there. IsPartitionPoint-from_clause passes _ j c.partition_point.ensures.partitioned parted_there (λ a r f called. search rules)) in
    ends_beyond passes xs n j (omega (arith, c.min-near.ensures)) (subst (λ m. n ≤ m) c.front_len-len.ensures c.if-len-near.false) bound (partitioned (parted_dropped passes n xs parted))
