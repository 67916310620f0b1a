use Rattle.rbac_decide.proofs.policy.Policy.deny_session.Goals as goal

pub returns : goal.returns
returns c = c.deny_for.ensures _ _ c.session_breach-breach.ensures
