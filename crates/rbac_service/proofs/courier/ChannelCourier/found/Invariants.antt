use Rattle.std.proofs.Common.{◌≡◌, vec_len}
use Rattle.rbac_service.proofs.courier.ChannelCourier.found.Given as goal

abbrev pub invariant-loop : goal.invariant-loop
invariant-loop g l = vec_len l.channels ≡ l.counter
