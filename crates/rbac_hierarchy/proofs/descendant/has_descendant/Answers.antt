use Rattle.std.proofs.Common.{◌∙◌, ◌==◌, not, ap, length, List}
use Rattle.std.specs.Ordering.{eq_by_cmp}
use Rattle.rbac_terms.specs.Name.{Name, name_cmp}
use Rattle.rbac_hierarchy.proofs.Kept.{some_kept}
use Rattle.rbac_hierarchy.proofs.descendant.has_descendant.Goals as goal

pub returns : goal.returns
returns c =
    ap not (c.is_empty.ensures ∙ ap (λ (pairs : List (Name × Name)). length pairs == 0) c.beginning_with.ensures)
    ∙ some_kept (λ (pair : Name × Name). eq_by_cmp name_cmp c.args.role.now pair.0) c.args.declared.now.content
