use Rattle.std.proofs.Common.{◌≡◌, take, drop, map}
use Rattle.rbac_decide.proofs.Common.{list_any, number_with, reaches}
use Rattle.rbac_decide.proofs.gains.row_with.Given as goal

abbrev pub invariant-loop-set : goal.invariant-loop-set
invariant-loop-set l = record {
  numbers : l.numbers ≡ map (number_with l.row l.fresh) (take l.set-index l.sets);
  breaks : list_any (reaches l.row l.fresh) l.sets ≡ list_any (reaches l.row l.fresh) (drop l.set-index l.sets);
}
