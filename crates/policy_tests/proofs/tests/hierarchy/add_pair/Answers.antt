use Rattle.std.proofs.Common.{ap}
use Rattle.rbac_hierarchy.proofs.WalkLemmas.{added_before, added_itself}
use Rattle.policy_tests.proofs.tests.hierarchy.add_pair.Goals as goal

pub declare-requires-clause-ascendant : goal.declare-requires-clause-ascendant
declare-requires-clause-ascendant g c =
    rw (ap (λ h. h.roles) c.in_ok-add_role-2.ensures.added, ap (λ h. h.roles) c.in_ok-add_role.ensures.added) (added_before c.args.ascendant.now c.args.descendant.now (g.O.RoleOrder.content c.args.hierarchy.now).roles)

pub declare-requires-clause-descendant : goal.declare-requires-clause-descendant
declare-requires-clause-descendant g c = rw (ap (λ h. h.roles) c.in_ok-add_role-2.ensures.added) (added_itself c.args.descendant.now (g.O.RoleOrder.content c.add_role.new.self).roles)
