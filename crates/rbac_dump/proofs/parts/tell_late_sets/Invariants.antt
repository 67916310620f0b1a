use Rattle.std.proofs.Common.{◌≡◌, ◌++◌, take}
use Rattle.std.specs.List.{flat_map}
use Rattle.rbac_dump.specs.Dump.{late_set}
use Rattle.rbac_dump.proofs.parts.tell_late_sets.Given as goal

-- what was told so far
abbrev pub invariant-loop-entry : goal.invariant-loop-entry
invariant-loop-entry l = l.commands.items ≡ l.fn.commands.items ++ flat_map (late_set l.room l.kind) (take l.entry-index l.sets)
