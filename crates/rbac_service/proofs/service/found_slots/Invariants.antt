use Rattle.std.proofs.Common.{◌≡◌, vec_len}
use Rattle.rbac_service.proofs.service.found_slots.Given as goal

abbrev pub invariant-loop-place : goal.invariant-loop-place
invariant-loop-place g l = vec_len l.slots ≡ l.place
