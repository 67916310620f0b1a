-- Commands that are replayed, and one more.
use Rattle.std.proofs.Common.{◌≡◌, List, [], ◌∷◌, ◌++◌, refl, ap}
use Rattle.rbac_terms.specs.State.{State}
use Rattle.rbac_terms.specs.Effect.{effect, reply}
use Rattle.rbac_terms.specs.Replay.{state_after, replies}
use Rattle.rbac_terms.specs.declared.command.Command.{Command}

pub state_after-push : (s : State) (cs : List Command) (c : Command) → state_after s (cs ++ c ∷ []) ≡ effect c (state_after s cs)
state_after-push s [] c = refl
state_after-push s (d ∷ cs) c = state_after-push (effect d s) cs c

pub replies-push : (s : State) (cs : List Command) (c : Command) → replies s (cs ++ c ∷ []) ≡ replies s cs ++ reply c (state_after s cs) ∷ []
replies-push s [] c = refl
replies-push s (d ∷ cs) c = ap (λ l. reply d s ∷ l) (replies-push (effect d s) cs c)
