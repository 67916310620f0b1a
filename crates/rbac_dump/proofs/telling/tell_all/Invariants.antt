use Rattle.std.proofs.Common.{◌≡◌, ◌++◌, map, take, Result, IfOk}
use Rattle.std.specs.Fn.{FnReturnsAt}
use Rattle.std.specs.declared.alloc.AllocError.{AllocError}
use Rattle.rbac_terms.specs.declared.command.Command.{Command}
use Rattle.rbac_dump.proofs.telling.tell_all.Given as goal

-- the things so far are told
abbrev pub invariant-loop-thing : goal.invariant-loop-thing
invariant-loop-thing g l =
    (command_of : g.row.T.Denot → Command) → ((thing : g.row.T.Denot) (told : Result Command AllocError) → FnReturnsAt g.F.Fn l.tell thing told → IfOk told (λ command. command ≡ command_of thing))
    → l.commands.items ≡ l.fn.commands.items ++ map command_of (take l.thing-index l.things)
