use Rattle.std.proofs.Common.{ap, ◌∙◌}
use Rattle.std.proofs.lemmas.Result.{IfOk-weaker}
use Rattle.staged.proofs.MadeLemmas.{made-alike}
use Rattle.rbac_sessions.specs.Changes.{changed}
use Rattle.rbac_sessions.proofs.ChangeLemmas.{changed_is}
use Rattle.rbac_sessions.proofs.sessions.Sessions.plan.Goals as goal

pub returns-clause-changes : goal.returns-clause-changes
returns-clause-changes c =
    let same = ap (λ s. s.content) c.self.view_is in
    IfOk-weaker c.make_plan.result _ _
    (λ plan made. rw (← same) (made ∙ made-alike _ changed changed_is c.args.changes.now _))
    c.make_plan.ensures.made
