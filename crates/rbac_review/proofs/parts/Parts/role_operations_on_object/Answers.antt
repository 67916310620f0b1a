use Rattle.std.proofs.Common.{ap}
use Rattle.rbac_terms.specs.Reviews.{operations_on}
use Rattle.rbac_review.specs.Parts.{state_of}
use Rattle.rbac_review.proofs.ReviewLemmas.{if_same, role_listed}
use Rattle.rbac_review.proofs.parts.Parts.role_operations_on_object.Goals as goal

pub returns : goal.returns
returns c =
    let s = state_of c.args.self.now in
    let listed = role_listed s c.args.role.now c.in_ok-juniors.juniors c.in_ok-juniors.ensures in
    if_same (ap (λ permissions. operations_on c.args.object.now permissions s.vocabulary.operations) listed) c.operations_of.result c.operations_of.ensures
