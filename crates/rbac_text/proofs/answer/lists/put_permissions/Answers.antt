use Rattle.std.proofs.Common.{◌++◌, ◌∙◌, append_assoc, codes}
use Rattle.rbac_text.specs.Pieces.{array_text}
use Rattle.rbac_text.specs.AnswerText.{permission_text}
use Rattle.rbac_text.proofs.TextLemmas.{last_piece}
use Rattle.rbac_text.proofs.answer.lists.put_permissions.Goals as goal

pub returns : goal.returns
returns c =
    let old = c.args.text.now.items in
    let key = codes "{\"permissions\":" in
    let array = array_text permission_text c.args.permissions.now in
    let to_array = c.in_ok-put_array.ensures.text ∙ append_assoc old key array in
    last_piece c.extend_from_slice.result old _ c.extend_from_slice.new.self.items (key ++ array) _ to_array c.extend_from_slice.ensures.items
