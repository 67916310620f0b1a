use Rattle.std.proofs.Common.{rules, arith, true, false, ◌≡◌, ◌∙◌}
use Rattle.std.specs.Ordering.{is_le}
use Rattle.std.specs.List.Sorted.{IsPartitionPoint}
use Rattle.std.proofs.lemmas.List.Sorted.{IsPartitionPoint-from_clause}
use Rattle.rbac_words.specs.Message.{submitted_at}
use Rattle.rbac_words.specs.Stamp.{stamp_cmp}
use Rattle.rbac_holdback.proofs.PlaceLemmas.{goes_after, parted, at_place, le-after}
use Rattle.rbac_holdback.proofs.list_held.insert.Goals as goal

-- it goes where its stamp puts it
pub returns-in-Ok-clause-inserted : goal.returns-in-Ok-clause-inserted
returns-in-Ok-clause-inserted c =
    let x = c.args.held in
    let xs = c.args.list.now.items in
    let i = c.partition_point-place.result in
    let part : IsPartitionPoint (λ y. goes_after submitted_at x y ≡ true) (λ y. goes_after submitted_at x y ≡ false) xs i =
    IsPartitionPoint-from_clause (goes_after submitted_at x) xs i c.partition_point-place.ensures.partitioned
    (parted submitted_at x xs c.requires)
    (λ a r f called. let e : r ≡ is_le (stamp_cmp a.0.now.stamp x.stamp) = search rules in (e ∙ le-after x.stamp a.0.now.stamp, search rules)) in
    c.in-Ok.ensures.items ∙ at_place submitted_at x xs i (omega arith) part
