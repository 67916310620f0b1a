use Rattle.std.proofs.Common.{◌≡◌, take}
use Rattle.rbac_decide.proofs.Common.{has, Name, name_cmp, is_touched}
use Rattle.rbac_decide.proofs.counting.affected.touched_names.Given as goal

abbrev pub invariant-loop-entry : goal.invariant-loop-entry
invariant-loop-entry l = (s : Name) → has name_cmp s l.names.items ≡ is_touched l.below s (take l.entry-index l.tables.static_sets.content)
