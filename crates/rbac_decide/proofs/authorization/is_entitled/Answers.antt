use Rattle.std.proofs.Common.{◌∙◌, ◌&&◌, ap}
use Rattle.rbac_decide.proofs.Common.{list_all, has, is_authorized, name_cmp, state_of_roles, all-same, authorized_for_a_role}
use Rattle.rbac_decide.proofs.authorization.is_entitled.Goals as goal

pub returns : goal.returns
returns c =
    let s = state_of_roles c.args.sets.now.content c.args.hierarchy.now.content in
    c.is_authorized_for_all.ensures
    ∙ ap (list_all (is_authorized s c.args.owner.now)) c.names.ensures.names
    ∙ all-same (is_authorized s c.args.owner.now) (λ role. has name_cmp role s.roles && is_authorized s c.args.owner.now role) (authorized_for_a_role s c.args.owner.now) c.args.active.now
