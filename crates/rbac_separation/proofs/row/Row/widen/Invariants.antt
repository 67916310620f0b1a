use Rattle.std.proofs.Common.{ℕ, ◌≡◌, ◌≤◌, ◌+◌, ◌-◌, length, get_or}
use Rattle.rbac_separation.proofs.row.Row.widen.Given as goal

abbrev pub invariant-loop-self : goal.invariant-loop-self
invariant-loop-self l = record {
  not_narrower : length l.fn.self ≤ length l.self-inside.numbers.items;
  numbers : (i : ℕ) → get_or l.self-inside.numbers.items i 0 ≡ get_or l.fn.self i 0;
}

abbrev pub decreases-loop-self : goal.decreases-loop-self
decreases-loop-self l = (l.place + 1) - length l.self-inside.numbers.items
