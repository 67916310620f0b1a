use Rattle.std.proofs.Common.{Bool, ◌∙◌, ap, count_by}
use Rattle.rbac_decide.proofs.Common.{Name, state_of_roles, authorized_by_own}
use Rattle.rbac_decide.proofs.authorization.count_authorized.Goals as goal

pub returns : goal.returns
returns c =
    let s = state_of_roles c.args.sets.now.content c.args.hierarchy.now.content in
    c.count_inherited.ensures
    ∙ ap (λ (f : Name → Bool). count_by f c.args.roles.now) (λ i role. (authorized_by_own s c.args.user.now c.assignments_of.result.now c.assignments_of.ensures role) i)
