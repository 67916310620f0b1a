use Rattle.std.proofs.Common.{ap}
use Rattle.rbac_terms.specs.Reviews.{operations_on}
use Rattle.rbac_review.specs.Parts.{state_of}
use Rattle.rbac_review.proofs.ReviewLemmas.{if_same, user_listed}
use Rattle.rbac_review.proofs.parts.Parts.user_operations_on_object.Goals as goal

pub returns : goal.returns
returns c =
    let s = state_of c.args.self.now in
    let listed = user_listed s c.args.user.now c.in_ok-roles.roles c.in_ok-roles.ensures in
    if_same (ap (λ permissions. operations_on c.args.object.now permissions s.vocabulary.operations) listed) c.operations_of.result c.operations_of.ensures
