use Rattle.std.proofs.Common.{◌∙◌, ap}
use Rattle.rbac_decide.proofs.Common.{Permission, State, permitted_users, permitted_sessions, if_each}
use Rattle.rbac_decide.proofs.CheckLemmas.{checked_sessions}
use Rattle.rbac_decide.proofs.policy.Policy.subjects.Goals as goal

pub returns : goal.returns
returns c =
    let permission : Permission = (c.args.operation.now, c.args.object.now) in
    record {
      users = if_each c.subjects.result _ _ (λ subjects told. told ∙ ap (λ (s : State). permitted_users s permission) c.parts.ensures) c.subjects.ensures.users;
      sessions = if_each c.subjects.result _ _ (λ subjects told. told ∙ ap (λ (s : State). permitted_sessions s permission) c.parts.ensures) c.subjects.ensures.sessions;
      checked = if_each c.subjects.result _ _
          (λ subjects told. told ∙ ap (λ (s : State). permitted_sessions s permission) c.parts.ensures ∙ checked_sessions c.args.self.now permission c.invariants.ensures)
          c.subjects.ensures.sessions;
    }
