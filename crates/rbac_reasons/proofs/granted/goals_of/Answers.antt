use Rattle.std.proofs.Common.{arith}
use Rattle.std.proofs.lemmas.List.{take_all}
use Rattle.rbac_decide.proofs.CheckLemmas.{among_granted}
use Rattle.rbac_reasons.proofs.MemberLemmas.{name_more}
use Rattle.rbac_reasons.proofs.granted.goals_of.Goals as goal

pub loop-role-preserved : goal.loop-role-preserved
loop-role-preserved c = λ name.
    rw c.in_ok-add_copy.ensures.added
    (name_more name c.granted_roles-roles.result.now c.loop-role.role-index c.role-item.result c.loop-role.goals c.loop-role-test.true c.role-item.is (c.loop-role.invariant name))

pub returns : goal.returns
returns c = λ role.
    let whole = take_all c.loop-role.role-index c.granted_roles-roles.result.now c.loop-role-test.false in
    let among = among_granted c.args.policy.now (c.args.operation.now, c.args.object.now) role in
    grind (arith, c.loop-role.invariant role, whole, c.granted_roles-roles.ensures, among)
