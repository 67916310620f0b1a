use Rattle.std.proofs.Common.{inl, refl}
use Rattle.base_tests.proofs.tests.runs.LengthsTaking.take_line.Goals as goal

pub returns-in-Err-clause-unchanged_or_taken : goal.returns-in-Err-clause-unchanged_or_taken
returns-in-Err-clause-unchanged_or_taken c = inl refl
