use Rattle.std.proofs.Common.{◌≡◌, take}
use Rattle.hashed_keys.proofs.map.HashedMap.same.Given as goal

abbrev pub invariant-loop-at : goal.invariant-loop-at
invariant-loop-at g l = take l.at l.self.content ≡ take l.at l.other.content
