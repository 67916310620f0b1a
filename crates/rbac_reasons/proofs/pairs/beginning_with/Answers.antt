use Rattle.std.proofs.Common.{rules, ap, subst, ◌∙◌, take, drop, Bool, true, false, ◌≡◌}
use Rattle.std.specs.Ordering.{is_lt, is_le, ordering_index}
use Rattle.std.specs.List.Sorted.{IsStrictlySortedBy, IsPartitionedBy, IsPartitionPoint}
use Rattle.std.proofs.lemmas.List.{take_rest}
use Rattle.std.proofs.lemmas.List.Sorted.{IsPartitionPoint-from_clause, IsNonDecreasingBy-drop}
use Rattle.sorted_keys.proofs.Beginning.{by_pair, firsts_rise, beginning, parted_by_less, parted_by_equal}
use Rattle.rbac_reasons.proofs.pairs.beginning_with.Goals as goal

pub returns : goal.returns
returns g c =
    let R = g.A.Ord.cmp in
    let k = g.P.Probe.sought c.args.first.now in
    let xs = c.args.pairs.now in
    let i = c.partition_point-start.result in
    let j = c.partition_point-end.result in
    let sorted : IsStrictlySortedBy (by_pair g.met.A.Ord.total g.B.Ord.cmp) xs = c.requires in
    let rise = firsts_rise g.met.A.Ord.total g.B.Ord.cmp k xs sorted in
    let whole = take_rest xs i in
    let low : IsPartitionPoint (λ p. is_lt (R p.0 k) ≡ true) (λ p. is_lt (R p.0 k) ≡ false) xs i = IsPartitionPoint-from_clause (λ p. is_lt (R p.0 k)) xs i c.partition_point-start.ensures.partitioned (parted_by_less (λ p. R p.0 k) xs rise) (λ a r f called. search rules) in
    let passes : g.row.A.Denot × g.row.B.Denot → Bool = λ p. is_le (R p.0 k) in
    let parted = parted_by_equal (λ p. R p.0 k) (drop i xs) (IsNonDecreasingBy-drop (λ p. ordering_index (R p.0 k)) i xs rise) in
    let partitioned = subst (λ ys. IsPartitionedBy passes ys → IsPartitionPoint (λ p. passes p ≡ true) (λ p. passes p ≡ false) ys j) whole
    (λ parted_there. IsPartitionPoint-from_clause passes _ j c.partition_point-end.ensures.partitioned parted_there (λ a r f called. search rules)) in
    ap (take j) whole ∙ beginning g.met.A.Ord.total g.B.Ord.cmp k xs i j low (partitioned parted)
