use Rattle.std.proofs.Common.{Bool, not, ◌∙◌, ap}
use Rattle.rbac_decide.proofs.Common.{first_where, Name, state_of_roles, authorized_by_own}
use Rattle.rbac_decide.proofs.authorization.first_unauthorized.Goals as goal

pub returns : goal.returns
returns c =
    let s = state_of_roles c.args.sets.now.content c.args.hierarchy.now.content in
    c.first_not_inherited.ensures
    ∙ ap (λ (f : Name → Bool). first_where (λ role. not (f role)) c.args.roles.now) (λ i role. (authorized_by_own s c.args.user.now c.assignments_of.result.now c.assignments_of.ensures role) i)
