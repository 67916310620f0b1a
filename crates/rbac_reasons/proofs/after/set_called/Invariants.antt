use Rattle.std.proofs.Common.{◌≡◌, drop}
use Rattle.std.specs.FinMap.Entries.{find}
use Rattle.rbac_terms.specs.Name.{name_cmp}
use Rattle.rbac_reasons.proofs.after.set_called.Given as goal

abbrev pub invariant-loop-entry : goal.invariant-loop-entry
invariant-loop-entry l = find name_cmp l.set l.sets ≡ find name_cmp l.set (drop l.entry-index l.sets)
