use Rattle.rbac_decide.proofs.Common.{change, is_violated, AddInheritance, Static, TellsAfter, changes_gathered, static_breach}
use Rattle.rbac_decide.proofs.GainSteps.{gathered_so}
use Rattle.rbac_decide.proofs.policy.Policy.may_add_inheritance.Goals as goal

pub returns-clause-gathered : goal.returns-clause-gathered
returns-clause-gathered c =
    let command = AddInheritance c.args.ascendant.now c.args.descendant.now in
    let after = change command c.args.self.now in
    gathered_so (is_violated Static after) (static_breach after) c.in_ok-breach.breach (TellsAfter command (changes_gathered c.inheritance_breach.new.gathered) c.args.self.now)
    c.in_ok-deny_pair.ensures c.in_ok-breach.ensures.breach c.in_ok-breach.ensures.gathered
