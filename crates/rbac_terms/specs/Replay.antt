-- Commands one after the other.
use Rattle.std.specs.Prelude.{List, [], ◌∷◌}
use Rattle.rbac_terms.specs.State.{State}
use Rattle.rbac_terms.specs.Effect.{effect, reply}
use Rattle.rbac_terms.specs.declared.command.Command.{Command}
use Rattle.rbac_terms.specs.declared.answer.Answer.{Answer}

-- the state that these commands leave
abbrev pub state_after : State → List Command → State
state_after s [] = s
state_after s (c ∷ cs) = state_after (effect c s) cs

-- their answers
abbrev pub replies : State → List Command → List Answer
replies s [] = []
replies s (c ∷ cs) = reply c s ∷ replies (effect c s) cs
