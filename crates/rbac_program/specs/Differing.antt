-- What is told of two policies.
use Rattle.std.specs.Prelude.{◌≡◌, ℕ, List}
use Rattle.rbac_terms.specs.State.{State}
use Rattle.rbac_terms.specs.declared.command.Command.{Command}
use Rattle.rbac_text.specs.Lines.{lines_text}
use Rattle.rbac_telling.specs.Leading.{IsLed}

-- the bytes are the client lines of commands that lead from the one state to the other, each of them answered Done
abbrev pub HasWay : State → State → List ℕ → Type 0
HasWay from to bytes = (commands : List Command) × IsLed from commands to × (bytes ≡ lines_text commands)
