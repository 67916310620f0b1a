use Rattle.sorted_keys.proofs.SideBySide.{IsHalfWay}
use Rattle.sorted_keys.proofs.paired.duplicate_paired.Given as goal

abbrev pub invariant-loop-key : goal.invariant-loop-key
invariant-loop-key g l = IsHalfWay g.met.K.Ord.total g.V.Ord.cmp (g.T.KeyTest.passes l.test) l.keys l.pairs l.key-index l.copy.items l.ahead
