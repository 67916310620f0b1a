use Rattle.rbac_decide.proofs.HindranceLemmas.{none_hinders}
use Rattle.rbac_decide.proofs.policy.Policy.decide.Goals as goal

pub returns-clause-denial : goal.returns-clause-denial
returns-clause-denial c = none_hinders c.args.command.now c.args.self.now c.in_ok-try_all.ensures.hindrance
