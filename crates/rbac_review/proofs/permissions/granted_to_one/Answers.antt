use Rattle.rbac_review.proofs.HashedLemmas.{granted_to_same}
use Rattle.rbac_review.proofs.ReviewLemmas.{if_same}
use Rattle.rbac_review.proofs.permissions.granted_to_one.Goals as goal

pub returns : goal.returns
returns c =
    let granted = c.args.sets.now.content.granted in
    if_same (granted_to_same c.in_ok-roles.roles.names.keys c.args.roles.now granted c.args.vocabulary.now.permissions c.in_ok-roles.ensures) c.permissions_granted.result c.permissions_granted.ensures
