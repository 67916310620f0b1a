use Rattle.rbac_board.specs.Known.{IsOf}
use Rattle.base_tests.proofs.tests.board.read_first_many.Given as goal

abbrev pub invariant-loop-place : goal.invariant-loop-place
invariant-loop-place g l = IsOf l.fn.row l.mark
