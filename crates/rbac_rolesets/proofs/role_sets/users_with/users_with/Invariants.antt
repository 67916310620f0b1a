use Rattle.rbac_rolesets.proofs.UsersWalk.{IsUnderWay}
use Rattle.rbac_rolesets.proofs.role_sets.users_with.users_with.Given as goal

abbrev pub invariant-loop-pair : goal.invariant-loop-pair
invariant-loop-pair l = IsUnderWay l.role l.users l.pairs l.pair-index l.found.items l.ahead
