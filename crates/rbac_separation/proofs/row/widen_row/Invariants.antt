use Rattle.std.proofs.Common.{ℕ, ◌≡◌, ◌+◌, ◌-◌, [], length, get_or}
use Rattle.rbac_separation.proofs.row.widen_row.Given as goal

abbrev pub invariant-loop-alloc : goal.invariant-loop-alloc
invariant-loop-alloc l = (j : ℕ) → get_or l.rows.items j [] ≡ get_or l.fn.rows.items j []

abbrev pub decreases-loop-alloc : goal.decreases-loop-alloc
decreases-loop-alloc l = (l.row + 1) - length l.rows.items
