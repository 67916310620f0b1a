use Rattle.std.proofs.Common.{◌≡◌, take}
use Rattle.std.specs.Option.{option_copied}
use Rattle.rbac_words.specs.World.{least}
use Rattle.rbac_holdback.specs.Queues.{lists_of, held_in}
use Rattle.rbac_holdback.proofs.holdback.least_head.Given as goal

abbrev pub invariant-loop-queue : goal.invariant-loop-queue
invariant-loop-queue l = option_copied l.least ≡ least (held_in (lists_of (take l.queue-index l.queues)))
