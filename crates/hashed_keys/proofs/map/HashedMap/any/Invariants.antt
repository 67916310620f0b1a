use Rattle.std.proofs.Common.{◌≡◌, drop}
use Rattle.std.specs.List.{list_any}
use Rattle.hashed_keys.proofs.map.HashedMap.any.Given as goal

abbrev pub invariant-loop-at : goal.invariant-loop-at
invariant-loop-at g l = let passes = g.T.EntryTest.passes l.test in list_any (λ e. passes e.0 e.1) l.self.content ≡ list_any (λ e. passes e.0 e.1) (drop l.at l.self.content)
