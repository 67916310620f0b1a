use Rattle.rbac_order.proofs.FoundingLemmas.{founding_right}
use Rattle.rbac_order.proofs.worlds.a_founding_is_right.Goals as goal

pub returns : goal.returns
returns c = founding_right
