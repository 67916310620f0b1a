use Rattle.std.proofs.Common.{◌++◌, ◌∙◌, codes, decimal, append_assoc}
use Rattle.rbac_text.proofs.TextLemmas.{put_before}
use Rattle.rbac_member_lines.proofs.text.put_none_held.Goals as goal

pub returns : goal.returns
returns c =
    put_before c.put_piece.result c.args.text.now.items c.put_number.new.text.items c.put_piece.new.text.items (codes "{\"line\":" ++ decimal c.args.line)
    (codes ",\"stamp\":null,\"waits\":0}\n") (c.in_ok-put_number.ensures ∙ append_assoc c.args.text.now.items (codes "{\"line\":") (decimal c.args.line)) c.put_piece.ensures
