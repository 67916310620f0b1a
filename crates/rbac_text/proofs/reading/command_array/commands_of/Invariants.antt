use Rattle.std.proofs.Common.{◌≡◌, drop}
use Rattle.lent_json.specs.Data.{items}
use Rattle.rbac_text.specs.CommandArray.{commands_of}
use Rattle.rbac_text.proofs.CommandArrayLemmas.{commands_after}
use Rattle.rbac_text.proofs.reading.command_array.commands_of.Given as goal

-- what is read, and what is left to read
abbrev pub invariant-loop-value : goal.invariant-loop-value
invariant-loop-value l = commands_of (items l.array) ≡ commands_after l.commands.items (commands_of (items (drop l.value-index l.array)))
