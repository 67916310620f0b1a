use Rattle.std.proofs.Common.{ap}
use Rattle.rbac_hierarchy.proofs.WalkLemmas.{added_before, added_itself}
use Rattle.policy_tests.proofs.tests.hierarchy.add_above.Goals as goal

pub add_role_with_pair-requires-clause-ascendant : goal.add_role_with_pair-requires-clause-ascendant
add_role_with_pair-requires-clause-ascendant g c = added_itself c.args.role.now (g.O.RoleOrder.content c.add_role.new.self).roles

pub add_role_with_pair-requires-clause-descendant : goal.add_role_with_pair-requires-clause-descendant
add_role_with_pair-requires-clause-descendant g c =
    rw (ap (λ h. h.roles) c.in_ok-add_role.ensures.added) (added_before c.args.junior.now c.args.role.now (g.O.RoleOrder.content c.args.hierarchy.now).roles)
