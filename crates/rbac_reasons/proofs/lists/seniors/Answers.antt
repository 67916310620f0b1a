use Rattle.std.proofs.Common.{ap, ◌∙◌}
use Rattle.sorted_keys.specs.Keys.{has}
use Rattle.rbac_terms.specs.Name.{Name, pair_cmp}
use Rattle.rbac_reasons.specs.Lists.{turned}
use Rattle.rbac_reasons.proofs.ListLemmas.{seniors_are}
use Rattle.rbac_reasons.proofs.lists.seniors.Goals as goal

pub returns : goal.returns
returns c =
    let s = c.args.policy.now in
    let are = λ (pair : Name × Name). c.in_ok-pairs.ensures pair ∙ ap (has pair_cmp (turned pair)) c.declarations.ensures in
    seniors_are s.roles s.declared c.in_ok-pairs.pairs.content c.invariants.ensures.references.declared are c.args.role.now
    c.in_ok-names.names c.invariants.ensures.in_order.roles c.names-in_order.ensures.in_order
    (rw (c.in_ok-starts.ensures, c.keys.ensures.keys) at c.in_ok-names.ensures)
