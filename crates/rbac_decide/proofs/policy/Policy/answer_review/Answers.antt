use Rattle.rbac_decide.proofs.Common.{ReviewCommand}
use Rattle.rbac_decide.proofs.ApplyLemmas.{denied-reply}
use Rattle.rbac_decide.proofs.HindranceLemmas.{denial_of_hindrance}
use Rattle.rbac_decide.proofs.policy.Policy.answer_review.Goals as goal

pub returns-in-Err : goal.returns-in-Err
returns-in-Err c =
    let asked = ReviewCommand c.args.review.now in
    denied-reply c.in-Err.hindrance.denial asked c.args.self.now (denial_of_hindrance asked c.args.self.now c.in-Err.hindrance c.in-Err.ensures)
