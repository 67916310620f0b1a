use Rattle.std.proofs.Common.{◌≡◌, take}
use Rattle.hashed_keys.specs.Pairs.{pairs_of}
use Rattle.hashed_keys.proofs.pairs.all_pairs.Given as goal

abbrev pub invariant-loop-place : goal.invariant-loop-place
invariant-loop-place g l = l.pairs.items ≡ pairs_of (take l.place l.sets.content)
