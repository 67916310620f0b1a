use Rattle.std.proofs.Common.{◌≡◌, take}
use Rattle.rbac_reasons.proofs.walk.Walk.begin.Given as goal

abbrev pub invariant-loop-start : goal.invariant-loop-start
invariant-loop-start l = l.pending.items ≡ take l.start-index l.start-items
