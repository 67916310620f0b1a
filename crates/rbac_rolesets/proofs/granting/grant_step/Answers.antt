use Rattle.std.proofs.Common.{◌≡◌, List, ap, ◌∙◌}
use Rattle.staged.specs.Made.{made_all}
use Rattle.sorted_keys.specs.Keys.{with_key}
use Rattle.hashed_keys.specs.Pairs.{replaced}
use Rattle.hashed_keys.proofs.PairChanges.{replaced_more}
use Rattle.rbac_terms.specs.Name.{Name, Grant, name_cmp, pair_cmp, grant_cmp}
use Rattle.rbac_terms.proofs.NameLemmas.{names_total, names_exact, pairs_total, pairs_exact}
use Rattle.rbac_rolesets.specs.Changes.{made}
use Rattle.rbac_rolesets.specs.Sets.{Sets}
use Rattle.rbac_rolesets.proofs.GrantLemmas.{grants_in_order}
use Rattle.rbac_rolesets.proofs.granting.grant_step.Goals as goal

pub returns : goal.returns
returns c =
    let reached : Sets = made_all made c.args.before.now c.args.sets.now.content in
    let operation = c.args.operation.now in
    let role = c.args.role.now in
    let permission : Name × Name = (c.in_ok-copy.field-0, c.in_ok-copy-2.field-0) in
    let granted : replaced pair_cmp name_cmp permission c.in_ok-roles.roles reached.granted ≡ with_key grant_cmp ((operation, c.args.object.now), role) reached.granted =
    ap (λ roles. replaced pair_cmp name_cmp permission roles reached.granted) (c.in_ok-roles.ensures ∙ ap (with_key name_cmp role) c.roles_after.ensures)
    ∙ replaced_more pairs_total names_total pairs_exact names_exact permission role reached.granted (grants_in_order c.args.before.now c.args.sets.now.content c.invariants.ensures.granted)
    ∙ ap (λ first. with_key grant_cmp ((first, permission.1), role) reached.granted) c.in_ok-copy.ensures
    ∙ ap (λ second. with_key grant_cmp ((operation, second), role) reached.granted) c.in_ok-copy-2.ensures in
    ap (λ (grants : List Grant). record reached { granted = grants }) granted
