use Rattle.std.proofs.Common.{rules, ◌≡◌, ◌∙◌, ◌++◌, ap}
use Rattle.std.specs.Prelude.{codes}
use Rattle.rbac_pages.specs.HindranceText.{numbered}
use Rattle.rbac_pages.proofs.TextLemmas.{ok_two_pieces}
use Rattle.rbac_pages.proofs.hindering.put_sizes.Goals as goal

pub returns : goal.returns
returns c =
    let same : c.from.result ≡ c.args.number = search rules in
    let number = ap (λ n. c.args.text.now.items ++ numbered (codes " would have the number ") n) same in
    ok_two_pieces c.put_numbered-2.result c.args.text.now.items _ _ c.put_numbered.new.text.items c.put_numbered-2.new.text.items (c.in_ok-put_numbered.ensures ∙ number) c.put_numbered-2.ensures
