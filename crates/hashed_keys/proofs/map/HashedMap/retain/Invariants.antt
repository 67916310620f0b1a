use Rattle.std.proofs.Common.{◌≡◌, ◌≤◌, ◌++◌, length, filter, take, drop}
use Rattle.hashed_keys.proofs.map.HashedMap.retain.Given as goal

abbrev pub invariant-loop-at : goal.invariant-loop-at
invariant-loop-at g l =
    let before = l.fn.self.content in
    let passes = g.T.EntryTest.passes l.test in
    record {
      within : l.at ≤ length before;
      content : l.self.content ≡ take l.at before ++ filter (λ e. passes e.0 e.1) (drop l.at before);
      room : l.fn.self.room ≤ l.self.room;
    }

abbrev pub decreases-loop-at : goal.decreases-loop-at
decreases-loop-at g l = l.at
