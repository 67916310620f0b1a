use Rattle.rbac_reasons.proofs.ListLemmas.{juniors_are}
use Rattle.rbac_reasons.proofs.lists.juniors.Goals as goal

pub returns : goal.returns
returns c =
    let s = c.args.policy.now in
    juniors_are s.roles s.declared c.invariants.ensures.references.declared c.args.role.now c.in_ok-names.names c.invariants.ensures.in_order.roles
    c.names-in_order.ensures.in_order (rw (c.in_ok-starts.ensures, c.declarations.ensures) at c.in_ok-names.ensures)
