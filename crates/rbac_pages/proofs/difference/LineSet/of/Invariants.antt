use Rattle.std.proofs.Common.{◌≡◌, ℕ, List, map, take}
use Rattle.sorted_keys.specs.Keys.{has}
use Rattle.rbac_pages.specs.DifferenceText.{is_line_of, line_cmp}
use Rattle.rbac_pages.proofs.difference.LineSet.of.Given as goal

abbrev pub invariant-loop-command : goal.invariant-loop-command
invariant-loop-command l = (line : List ℕ) → has line_cmp line (map (λ key. key.items) l.lines.keys) ≡ is_line_of (take l.command-index l.commands) line
