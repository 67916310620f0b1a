use Rattle.std.proofs.Common.{◌≡◌, ◌∙◌, Bool, not, map, ap}
use Rattle.rbac_decide.proofs.Common.{list_any, is_authorized, inherits, Name, state_of_roles, if_each, authorized_by_own}
use Rattle.rbac_decide.proofs.authorization.fresh_roles.Goals as goal

pub returns : goal.returns
returns c =
    let h = c.args.hierarchy.now.content in
    let s = state_of_roles c.args.sets.now.content h in
    let roles = c.args.roles.now in
    if_each c.not_inherited.result
    (λ fresh. fresh.items ≡ map (λ role. not (list_any (λ (pair : Name × Name). inherits h.roles h.declared pair.1 role) c.assignments_of.result.now)) roles)
    (λ fresh. fresh.items ≡ map (λ role. not (is_authorized s c.args.user.now role)) roles)
    (λ fresh made. made ∙ ap (λ (f : Name → Bool). map (λ role. not (f role)) roles) (λ i role. (authorized_by_own s c.args.user.now c.assignments_of.result.now c.assignments_of.ensures role) i))
    c.not_inherited.ensures
