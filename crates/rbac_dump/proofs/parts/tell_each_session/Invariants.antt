use Rattle.std.proofs.Common.{◌≡◌, ◌++◌, take}
use Rattle.std.specs.List.{flat_map}
use Rattle.rbac_dump.specs.Dump.{session_commands}
use Rattle.rbac_dump.proofs.parts.tell_each_session.Given as goal

-- what was told so far
abbrev pub invariant-loop-entry : goal.invariant-loop-entry
invariant-loop-entry l = l.commands.items ≡ l.fn.commands.items ++ flat_map (session_commands l.room) (take l.entry-index l.sessions)
