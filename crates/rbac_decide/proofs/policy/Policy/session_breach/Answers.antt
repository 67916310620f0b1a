use Rattle.rbac_decide.proofs.SeparationLemmas.{created_violated}
use Rattle.rbac_decide.proofs.BreachLemmas.{tells_so, session_named}
use Rattle.rbac_decide.proofs.policy.Policy.session_breach.Goals as goal

pub returns : goal.returns
returns c =
    let s = c.args.self.now in
    let user = c.args.user.now in
    let session = c.args.session.now in
    let roles = c.args.roles.now in
    tells_so _ _ _ _ c.breach_by.result (created_violated user session roles s c.invariants.ensures) (λ broken. session_named user session roles s c.invariants.ensures broken) (c.breach_by.ensures user)
