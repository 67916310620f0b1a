use Rattle.std.proofs.Common.{◌∙◌}
use Rattle.rbac_decide.proofs.Common.{state_of_roles, authorized_by_own}
use Rattle.rbac_decide.proofs.authorization.is_authorized.Goals as goal

pub returns : goal.returns
returns c =
    let s = state_of_roles c.args.sets.now.content c.args.hierarchy.now.content in
    c.some_inherits.ensures ∙ authorized_by_own s c.args.user.now c.assignments_of.result.now c.assignments_of.ensures c.args.role.now
