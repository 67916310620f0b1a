use Rattle.std.proofs.Common.{◌≡◌, length, map}
use Rattle.std.specs.Prelude.{replicate}
use Rattle.rbac_node.proofs.rows.found_rows.Given as goal

abbrev pub invariant-loop : goal.invariant-loop
invariant-loop g l = map length l.rows.items ≡ replicate l.counter l.places
