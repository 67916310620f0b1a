use Rattle.std.proofs.Common.{◌≡◌, map, drop}
use Rattle.lent_json.specs.Data.{items}
use Rattle.rbac_text.specs.Fields.{names_of}
use Rattle.rbac_text.proofs.ArrayLemmas.{text_of, names_from}
use Rattle.rbac_text.proofs.reading.fields.names_of.Given as goal

-- what is left to add to the names so far
abbrev pub invariant-loop-value : goal.invariant-loop-value
invariant-loop-value l = names_of (items l.array) ≡ names_from l.names (map text_of (drop l.value-index l.array))
