use Rattle.std.proofs.Common.{◌∙◌, ◌++◌, ap}
use Rattle.std.specs.Prelude.{codes}
use Rattle.rbac_terms.specs.Denials.{denial_word}
use Rattle.rbac_pages.proofs.TextLemmas.{ok_three_pieces, ok_put}
use Rattle.rbac_pages.proofs.granting.put_denied.Goals as goal

pub returns : goal.returns
returns c =
    let word = ap (λ w. c.extend_from_slice.new.self.items ++ w) (c.as_bytes.ensures.value ∙ c.word.ensures) in
    ok_three_pieces c.extend_from_slice-3.result c.args.text.now.items (codes " would grant it, but activating it is denied: ") (denial_word c.args.denial) (codes "\n")
    c.extend_from_slice.new.self.items c.extend_from_slice-2.new.self.items c.extend_from_slice-3.new.self.items
    c.in_ok-extend_from_slice.ensures.items (c.in_ok-extend_from_slice-2.ensures.items ∙ word) (ok_put c.extend_from_slice-3.result _ _ _ c.extend_from_slice-3.ensures.items)
