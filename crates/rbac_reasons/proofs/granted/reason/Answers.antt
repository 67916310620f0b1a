use Rattle.std.proofs.Common.{rules, ◌≡◌, Some, subst, arith}
use Rattle.std.specs.FinMap.Entries.{find}
use Rattle.rbac_terms.specs.Name.{Permission, name_cmp}
use Rattle.rbac_terms.specs.State.{Session}
use Rattle.rbac_reasons.specs.Path.{LeadsTo, NoneLeads}
use Rattle.rbac_reasons.proofs.ReasonLemmas.{AreGranted, active_is_role, not_held}
use Rattle.rbac_reasons.proofs.WalkLemmas.{chain_of_path}
use Rattle.rbac_reasons.proofs.granted.reason.Goals as goal

pub returns-in-Some-2-clause-reason : goal.returns-in-Some-2-clause-reason
returns-in-Some-2-clause-reason c =
    let s = c.args.policy.now in
    let session : Session = c.in-Some.found.now in
    let chain = c.in-Some-2.chain in
    let found : find name_cmp c.args.session.now s.sessions ≡ Some session = search rules in
    let are : AreGranted s (c.args.operation.now, c.args.object.now) c.in_ok-goals.goals = search rules in
    let leads : LeadsTo s.declared session.active c.in_ok-goals.goals chain =
    subst (λ (x : Session). LeadsTo s.declared x.active c.in_ok-goals.goals chain) c.found.view_is
    (rw c.declarations.ensures at (rw c.in-Some-2.is at c.in_ok-chain.ensures.found)) in
    record {
      active = grind (arith, found, leads.first);
      inherited = chain_of_path s.roles s.declared c.invariants.ensures.references.declared chain.first chain.rest.items chain.last
          (active_is_role s c.invariants.ensures c.args.session.now session found chain.first leads.first) leads.path;
      granted = grind (arith, are chain.last, leads.last);
    }

pub returns-clause-granted : goal.returns-clause-granted
returns-clause-granted c =
    let s = c.args.policy.now in
    let session : Session = c.in-Some.found.now in
    let permission : Permission = (c.args.operation.now, c.args.object.now) in
    let found : find name_cmp c.args.session.now s.sessions ≡ Some session = search rules in
    let are : AreGranted s permission c.in_ok-goals.goals = search rules in
    let none : NoneLeads s.declared session.active c.in_ok-goals.goals =
    subst (λ (x : Session). NoneLeads s.declared x.active c.in_ok-goals.goals) c.found.view_is
    (rw c.declarations.ensures at (c.in_ok-chain.ensures.none (search rules))) in
    absurd (not_held s session permission c.in_ok-goals.goals are none (rw found at (c.is_granted.ensures.held c.if-not-is_granted.false)))
