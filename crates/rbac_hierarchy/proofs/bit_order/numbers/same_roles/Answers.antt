use Rattle.std.proofs.Common.{sym}
use Rattle.std.proofs.lemmas.Bool.{both_ways}
use Rattle.rbac_hierarchy.proofs.NumberLemmas.{roles_same, roles_among}
use Rattle.rbac_hierarchy.proofs.bit_order.numbers.same_roles.Goals as goal

pub returns-then-is_subset : goal.returns-then-is_subset
returns-then-is_subset c =
    let xs = c.args.numbers.now.keys in
    let ys = c.args.others.now.keys in (
      λ back. roles_same xs ys (c.is_subset.ensures.0 c.if-is_subset.true) (c.is_subset-then-is_subset.ensures.0 back),
      λ same. c.is_subset-then-is_subset.ensures.1 (roles_among ys xs (sym same)),
    )

pub returns-else-is_subset : goal.returns-else-is_subset
returns-else-is_subset c =
    let xs = c.args.numbers.now.keys in
    let ys = c.args.others.now.keys in (
      λ there. absurd (both_ways _ c.if-is_subset.false there),
      λ same. c.is_subset.ensures.1 (roles_among xs ys same),
    )
