use Rattle.std.proofs.Common.{◌++◌, ap}
use Rattle.rbac_pages.proofs.DifferenceLemmas.{only_marked}
use Rattle.rbac_pages.proofs.TextLemmas.{ok_then}
use Rattle.rbac_pages.proofs.difference.put_only.Goals as goal

pub returns : goal.returns
returns c = ok_then c.put_all.result _ _ _ c.put_all.ensures (ap (λ told. c.args.text.now.items ++ told) (only_marked c.args.mark.now _ c.args.commands.now c.args.others.now c.in_ok-others.ensures))
