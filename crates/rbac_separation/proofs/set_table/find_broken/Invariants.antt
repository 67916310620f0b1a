use Rattle.std.proofs.Common.{◌≡◌, drop}
use Rattle.rbac_terms.specs.Separation.{first_broken}
use Rattle.rbac_separation.proofs.set_table.find_broken.Given as goal

abbrev pub invariant-loop-entry : goal.invariant-loop-entry
invariant-loop-entry l = first_broken l.roles l.sets ≡ first_broken l.roles (drop l.entry-index l.sets)
