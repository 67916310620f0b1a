use Rattle.std.proofs.Common.{◌++◌, codes}
use Rattle.rbac_text.proofs.TextLemmas.{put_before}
use Rattle.rbac_lines.proofs.text.put_refused_word.Goals as goal

pub returns : goal.returns
returns c =
    let old = c.args.text.now.items in
    let key = c.put_piece.new.text.items in
    let word = c.put_piece-2.new.text.items in
    let new = c.put_piece-3.new.text.items in
    let end = codes "\"}\n" in
    put_before c.put_piece-3.result old key new (codes ",\"refused\":\"") (c.args.word.now ++ end) c.in_ok-put_piece.ensures
    (put_before c.put_piece-3.result key word new c.args.word.now end c.in_ok-put_piece-2.ensures c.put_piece-3.ensures)
