use Rattle.std.proofs.Common.{◌++◌, length, ap, ◌∙◌}
use Rattle.std.specs.List.{flat_map}
use Rattle.std.specs.Prelude.{codes}
use Rattle.rbac_pages.specs.HindranceText.{excess_text}
use Rattle.rbac_pages.specs.PageText.{name_text}
use Rattle.rbac_pages.proofs.TextLemmas.{ok_then, ok_three_pieces}
use Rattle.rbac_pages.proofs.hindering.put_breach.Goals as goal

pub returns : goal.returns
returns c =
    let first = c.extend_from_slice.new.self.items in
    let listed = c.in_ok-put_all.ensures ∙ ap (λ names. first ++ flat_map name_text names) c.names.ensures.names in
    let excess = ok_then c.put_excess.result _ _ _ c.put_excess.ensures (ap (λ count. c.put_all.new.list.items ++ excess_text count c.args.number) c.len.ensures) in
    ok_three_pieces c.put_excess.result c.args.text.now.items (codes ":") (flat_map name_text c.args.roles.now) (excess_text (length c.args.roles.now) c.args.number) first c.put_all.new.list.items c.put_excess.new.text.items
    c.in_ok-extend_from_slice.ensures.items listed excess
