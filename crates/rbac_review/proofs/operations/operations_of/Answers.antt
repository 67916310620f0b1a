use Rattle.rbac_review.specs.Among.{is_granted_to_one}
use Rattle.rbac_review.proofs.ReviewLemmas.{if_same, operations_listed}
use Rattle.rbac_review.proofs.operations.operations_of.Goals as goal

pub returns : goal.returns
returns c =
    let v = c.args.vocabulary.now in
    let listed = operations_listed c.args.object.now (is_granted_to_one c.args.roles.now c.args.sets.now.content.granted) v.permissions v.operations in
    if_same listed c.operations_where.result c.operations_where.ensures
