use Rattle.std.proofs.Common.{drop}
use Rattle.sorted_keys.proofs.SideBySide.{IsUnderWay}
use Rattle.sorted_keys.proofs.paired.walk.Given as goal

abbrev pub invariant-loop-at : goal.invariant-loop-at
invariant-loop-at g l = IsUnderWay g.K.Ord.cmp (g.T.KeyTest.passes l.test) l.key l.pairs l.at l.passes (drop l.at l.pairs)
