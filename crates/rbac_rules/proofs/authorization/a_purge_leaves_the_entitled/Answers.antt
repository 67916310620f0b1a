use Rattle.rbac_rules.proofs.PurgeLemmas.{purge-entitled, purge-unchanged}
use Rattle.rbac_rules.proofs.authorization.a_purge_leaves_the_entitled.Goals as goal

pub returns : goal.returns
returns c = record { entitled = purge-entitled; unchanged = purge-unchanged }
