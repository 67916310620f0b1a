use Rattle.std.proofs.Common.{◌∙◌, ap}
use Rattle.std.specs.List.{list_any}
use Rattle.sorted_keys.specs.Keys.{has}
use Rattle.rbac_terms.specs.Name.{Name, name_cmp}
use Rattle.rbac_rolesets.proofs.GrantLemmas.{any_granted}
use Rattle.rbac_review.proofs.permissions.is_granted_to_one.Goals as goal

pub returns : goal.returns
returns c =
    let among = λ (role : Name). has name_cmp role c.args.roles.now in
    c.is_to_one.ensures ∙ ap (list_any among) c.grants_of.ensures ∙ any_granted among (c.args.operation.now, c.args.object.now) c.args.sets.now.content.granted
