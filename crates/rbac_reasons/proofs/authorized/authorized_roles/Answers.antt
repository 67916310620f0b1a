use Rattle.std.proofs.Common.{ap, ◌∙◌}
use Rattle.sorted_keys.specs.Keys.{has}
use Rattle.rbac_terms.specs.Name.{Name, pair_cmp}
use Rattle.rbac_reasons.proofs.AuthorizedLemmas.{if_ok, authorized_is}
use Rattle.rbac_reasons.proofs.authorized.authorized_roles.Goals as goal

pub returns : goal.returns
returns c =
    let s = c.args.policy.now in
    let user = c.args.user.now in
    let are = λ (r : Name). c.in_ok-starts.ensures r ∙ ap (has pair_cmp (user, r)) c.assignments.ensures in
    if_ok c.reached.result
    (λ roles reached. authorized_is s c.invariants.ensures.references user c.in_ok-starts.starts roles are (rw c.declarations.ensures at reached))
    c.reached.ensures
