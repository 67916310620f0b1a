use Rattle.rbac_rolesets.proofs.UsersWalk.{IsLookingFor}
use Rattle.rbac_rolesets.proofs.role_sets.users_with.seek.Given as goal

abbrev pub invariant-loop-at : goal.invariant-loop-at
invariant-loop-at l = IsLookingFor l.user l.users l.at
