use Rattle.std.proofs.Common.{◌≡◌, ◌+◌, ◌++◌, drop}
use Rattle.std.specs.List.{filter}
use Rattle.rbac_words.specs.Stamp.{is_after}
use Rattle.rbac_pages.specs.TraceText.{stamps_from}
use Rattle.rbac_pages.proofs.held.add_places.Given as goal

-- what the commands from here on will add
abbrev pub invariant-loop-command : goal.invariant-loop-command
invariant-loop-command l =
    (l.own.place ≡ l.fn.first.place + l._command-index)
    × (l.held.items ++ filter (is_after l.last) (stamps_from l.own (drop l._command-index l.commands)) ≡ l.fn.held.items ++ filter (is_after l.last) (stamps_from l.fn.first l.commands))
