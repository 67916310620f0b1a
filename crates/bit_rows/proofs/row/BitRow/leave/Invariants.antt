use Rattle.std.proofs.Common.{ℕ, ◌≡◌, ◌<◌, length, get_or}
use Rattle.bit_rows.proofs.row.BitRow.leave.Given as goal

abbrev pub invariant-loop-k : goal.invariant-loop-k
invariant-loop-k l = (length l.self-inside.words.items ≡ length l.initial.self-inside.words.items) × ((n : ℕ) → n < l.k → get_or l.self-inside.words.items n 0 ≡ 0)
