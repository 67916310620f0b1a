use Rattle.std.proofs.Common.{◌≡◌, ◌++◌, map, take}
use Rattle.hashed_keys.proofs.pairs.add_pairs.Given as goal

abbrev pub invariant-loop-second : goal.invariant-loop-second
invariant-loop-second g l =
    let pair : g.row.B.Denot → g.row.A.Denot × g.row.B.Denot = λ b. (l.first, b) in
    l.pairs.items ≡ l.fn.pairs.items ++ map pair (take l.second-index l.seconds)
