use Rattle.rbac_decide.proofs.Common.{has, name_cmp}
use Rattle.rbac_decide.proofs.TouchedLemmas.{names_filtered}
use Rattle.rbac_decide.proofs.touched.roles_among.Goals as goal

pub returns : goal.returns
returns c =
    names_filtered (λ r. has name_cmp r c.args.below.now) c.args.roles.now c.in_ok-among.among c.names-roles.ensures.in_order c.names-among.ensures.in_order c.in_ok-among.ensures
