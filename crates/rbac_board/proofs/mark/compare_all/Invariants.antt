use Rattle.std.proofs.Common.{◌≡◌, take, map}
use Rattle.rbac_board.proofs.mark.compare_all.Given as goal

abbrev pub invariant-loop-at : goal.invariant-loop-at
invariant-loop-at g l = record {
  agree : take l.at (map (λ s. s.value) l.fn.mine) ≡ take l.at (map (λ s. s.value) l.fn.theirs);
  mine : l.mine ≡ l.fn.mine;
  theirs : l.theirs ≡ l.fn.theirs;
}
