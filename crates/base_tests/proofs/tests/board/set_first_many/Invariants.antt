use Rattle.std.proofs.Common.{◌≡◌, length}
use Rattle.rbac_board.specs.Known.{IsOf}
use Rattle.base_tests.proofs.tests.board.set_first_many.Given as goal

abbrev pub invariant-loop-place : goal.invariant-loop-place
invariant-loop-place g l = record {
  of : IsOf l.fn.row l.mark;
  known : length l.mark.values ≡ l.place;
}
