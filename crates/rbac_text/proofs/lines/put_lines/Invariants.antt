use Rattle.std.proofs.Common.{◌≡◌, ◌++◌, take}
use Rattle.std.specs.List.{AllByRecursion as Each}
use Rattle.rbac_text.specs.Command.{command_fields}
use Rattle.rbac_text.specs.CommandText.{AreFields}
use Rattle.rbac_text.specs.Lines.{lines_text}
use Rattle.rbac_text.proofs.lines.put_lines.Given as goal

-- the commands so far have their lines
abbrev pub invariant-loop-command : goal.invariant-loop-command
invariant-loop-command l = (l.text.items ≡ l.fn.text.items ++ lines_text (take l.command-index l.commands)) × Each (λ command. AreFields (command_fields command)) (take l.command-index l.commands)
