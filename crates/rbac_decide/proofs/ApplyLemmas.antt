-- What a command that is not denied answers and leaves.
use Rattle.std.proofs.Common.{◌≡◌, Option, Some, None, sym, ap, ◌∙◌, subst}
use Rattle.rbac_decide.proofs.Common.{change, effect, effect_unless, reply, reply_unless, first_denial, IsSound, BringsASet, State, Denial, Command}
use Rattle.rbac_decide.proofs.Common.{sound_effect}
use Rattle.rbac_terms.specs.declared.answer.Answer.TheVariants.{Denied}

-- what is inside is changed
pub changed : (c : Command) (s inside new : State) → first_denial c s ≡ None → inside ≡ s → new ≡ change c inside → new ≡ effect c s
changed c s inside new none seen made = made ∙ ap (change c) seen ∙ ap (λ (o : Option Denial). effect_unless o c s) (sym none)

-- and is as sound as before
pub sound_then : (c : Command) (s inside new : State) → BringsASet c → IsSound inside → first_denial c s ≡ None → inside ≡ s → new ≡ change c inside → IsSound new
sound_then c s inside new brings sound none seen made = subst IsSound (sym (changed c s inside new none seen made)) (sound_effect c s brings (subst IsSound seen sound))

-- what is denied is answered by its denial
pub denied-reply : (denial : Denial) (c : Command) (s : State) → first_denial c s ≡ Some denial → Denied denial ≡ reply c s
denied-reply denial c s e = sym (ap (λ (o : Option Denial). reply_unless o c s) e)
