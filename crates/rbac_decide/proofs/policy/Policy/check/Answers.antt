use Rattle.std.proofs.Common.{ap, ◌∙◌}
use Rattle.rbac_decide.proofs.Common.{list_any, inherits_in, has_permission, Permission, State, state_of, holds_what_is_listed}
use Rattle.rbac_decide.proofs.CheckLemmas.{has_by_grants}
use Rattle.rbac_decide.proofs.policy.Policy.check.Goals as goal

pub returns-clause-held : goal.returns-clause-held
returns-clause-held g c =
    let asked : Permission = (g.O.Probe.sought c.args.operation.now, g.B.Probe.sought c.args.object.now) in
    let s : State = state_of c.self.inside.tables c.self.inside.vocabulary in
    rw c.in_ok-session.ensures.found
    (c.some_inherits_some.ensures
    ∙ ap (λ grants. list_any (λ role. list_any (inherits_in s role) grants) c.names.result.now) c.grants_of-grants.ensures
    ∙ has_by_grants s asked c.names.result.now
    ∙ ap (λ (seen : State). list_any (has_permission seen asked) c.names.result.now) c.self.view_is
    ∙ ap (λ roles. list_any (has_permission c.args.self.now asked) roles) (c.names.ensures.names ∙ ap (λ session. session.active) c.session.view_is))

pub returns-clause-listed : goal.returns-clause-listed
returns-clause-listed g c = returns-clause-held g c ∙ holds_what_is_listed c.args.self.now (g.S.Probe.sought c.args.session.now) (g.O.Probe.sought c.args.operation.now, g.B.Probe.sought c.args.object.now) c.invariants.ensures
