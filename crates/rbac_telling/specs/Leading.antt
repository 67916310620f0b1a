-- Commands that lead from one state to another.
use Rattle.std.specs.Prelude.{◌≡◌, List}
use Rattle.std.specs.List.{AllByRecursion as Each}
use Rattle.rbac_terms.specs.Replay.{state_after, replies}
use Rattle.rbac_terms.specs.State.{State}
use Rattle.rbac_terms.specs.declared.answer.Answer.TheVariants.{Done}
use Rattle.rbac_terms.specs.declared.command.Command.{Command}

-- each of the commands is answered Done, and they leave the other state
abbrev pub IsLed : State → List Command → State → Type 0
IsLed s commands t = (state_after s commands ≡ t) × Each (λ answer. answer ≡ Done) (replies s commands)
