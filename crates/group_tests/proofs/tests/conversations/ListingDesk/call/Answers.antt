use Rattle.std.proofs.Common.{Ok, inr}
use Rattle.rbac_terms.specs.declared.answer.Answer.TheVariants.{Done}
use Rattle.group_tests.proofs.tests.conversations.ListingDesk.call.Goals as goal

-- it was asked, and its reply is lost
pub returns-in-7-clause-lost : goal.returns-in-7-clause-lost
returns-in-7-clause-lost c = λ _. inr (Ok Done, (λ same. cc), c.in-Ok.ensures.items)
