use Rattle.rbac_rules.proofs.ReviewLemmas.{holds_what_is_listed}
use Rattle.rbac_rules.proofs.authorization.a_session_holds_what_its_review_lists.Goals as goal

pub returns : goal.returns
returns c = holds_what_is_listed
