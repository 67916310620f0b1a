use Rattle.std.proofs.Common.{◌≡◌, ◌≤◌, ◌++◌, map, take, drop}
use Rattle.hashed_keys.proofs.map.HashedMap.change_each.Given as goal

abbrev pub invariant-loop-at : goal.invariant-loop-at
invariant-loop-at g l =
    let before = l.fn.self.content in
    record {
      content : l.self.content ≡ map (λ e. (e.0, g.C.EachChange.changed l.change e.1)) (take l.at before) ++ drop l.at before;
      room : l.fn.self.room ≤ l.self.room;
    }
