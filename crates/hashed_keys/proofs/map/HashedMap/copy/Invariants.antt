use Rattle.std.proofs.Common.{◌≡◌, take}
use Rattle.hashed_keys.proofs.map.HashedMap.copy.Given as goal

abbrev pub invariant-loop-at : goal.invariant-loop-at
invariant-loop-at g l = l.copy.content ≡ take l.at l.self.content
