use Rattle.std.proofs.Common.{◌∙◌, ap, sym}
use Rattle.std.specs.Ordering.{eq_by_cmp}
use Rattle.sorted_keys.specs.Keys.{has}
use Rattle.rbac_text.proofs.ReadingLemmas.{list_any-map}
use Rattle.rbac_pages.specs.DifferenceText.{line_cmp}
use Rattle.rbac_pages.proofs.difference.LineSet.contains.Goals as goal

pub returns : goal.returns
returns c =
    let line = c.args.line.now.items in
    c.contains.ensures ∙ sym (list_any-map (eq_by_cmp line_cmp line) (λ key. key.items) c.self.inside.lines.keys) ∙ ap (has line_cmp line) c.self.view_is
