use Rattle.rbac_decide.proofs.Common.{change, is_violated, AssignUser, Static, TellsAfter, changes_gathered, static_breach}
use Rattle.rbac_decide.proofs.GainSteps.{gathered_so}
use Rattle.rbac_decide.proofs.policy.Policy.may_assign_user.Goals as goal

pub returns-clause-gathered : goal.returns-clause-gathered
returns-clause-gathered c =
    let command = AssignUser c.args.user.now c.args.role.now in
    let after = change command c.args.self.now in
    gathered_so (is_violated Static after) (static_breach after) c.in_ok-breach.breach (TellsAfter command (changes_gathered c.assignment_breach.new.gathered) c.args.self.now)
    c.in_ok-deny_assignment.ensures c.in_ok-breach.ensures.breach c.in_ok-breach.ensures.gathered
