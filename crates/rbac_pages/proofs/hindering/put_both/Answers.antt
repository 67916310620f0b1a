use Rattle.rbac_pages.proofs.TextLemmas.{ok_two_pieces}
use Rattle.rbac_pages.proofs.hindering.put_both.Goals as goal

pub returns : goal.returns
returns c = ok_two_pieces c.put_named-2.result c.args.text.now.items _ _ c.put_named.new.text.items c.put_named-2.new.text.items c.in_ok-put_named.ensures c.put_named-2.ensures
