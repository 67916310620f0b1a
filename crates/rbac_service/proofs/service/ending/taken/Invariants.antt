use Rattle.std.proofs.Common.{◌≡◌, ◌≤◌, ◌+◌, vec_len, vec_capacity, length}
use Rattle.rbac_service.proofs.service.ending.taken.Given as goal

abbrev pub invariant-loop-slot : goal.invariant-loop-slot
invariant-loop-slot g l = record {
  all : vec_len l.room + vec_len l.slots ≡ vec_len l.fn.slots;
  fits : vec_len l.fn.slots ≤ vec_capacity l.room;
}

abbrev pub decreases-loop-slot : goal.decreases-loop-slot
decreases-loop-slot g l = length l.slots.items
