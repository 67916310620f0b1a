use Rattle.std.proofs.Common.{ℕ, ◌≡◌, ◌<◌, ◌≤◌, [], length, get_or}
use Rattle.bit_rows.specs.Bits.{bit}
use Rattle.bit_rows.specs.Room.{AreWidened}
use Rattle.bit_rows.proofs.rows.widen_all.Given as goal

abbrev pub invariant-loop-at : goal.invariant-loop-at
invariant-loop-at l = record {
  widened : AreWidened l.fn.rows l.rows;
  wide : (i : ℕ) → i < l.at → l.words ≤ length (get_or l.rows i []);
  bits : (i j : ℕ) → bit l.rows i j ≡ bit l.fn.rows i j;
}
