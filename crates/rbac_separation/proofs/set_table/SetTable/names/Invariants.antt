use Rattle.std.proofs.Common.{◌≡◌, map, take}
use Rattle.rbac_separation.proofs.set_table.SetTable.names.Given as goal

abbrev pub invariant-loop-entry : goal.invariant-loop-entry
invariant-loop-entry l = l.names ≡ map (λ e. e.0) (take l.entry-index l.sets)
