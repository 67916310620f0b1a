-- What is not answered by Done has changed nothing.
use Rattle.std.proofs.Common.{◌≡◌, Option, Some, None, refl, ◌∙◌}
use Rattle.rbac_terms.specs.State.{State}
use Rattle.rbac_terms.specs.Rows.{first_denial}
use Rattle.rbac_terms.specs.Effect.{effect, effect_unless, reply, reply_unless}
use Rattle.rbac_terms.specs.declared.command.Command.{Command}
use Rattle.rbac_terms.specs.declared.command.Command.TheVariants.{CheckAccess, Review as ReviewCommand}
use Rattle.rbac_terms.specs.declared.answer.Answer.{Answer}
use Rattle.rbac_terms.specs.declared.answer.Answer.TheVariants.{Done}
use Rattle.rbac_terms.specs.declared.answer.Denial.{Denial}

no_change : (denial : Option Denial) (asked : Command) (s : State) → (reply_unless denial asked s ≡ Done → ⊥) → effect_unless denial asked s ≡ s
no_change (Some first) asked s other = refl
no_change None (CheckAccess session operation object) s other = refl
no_change None (ReviewCommand review) s other = refl
no_change None asked s other = absurd (other refl)

pub no_effect : (asked : Command) (s : State) (answer : Answer) → answer ≡ reply asked s → (answer ≡ Done → ⊥) → effect asked s ≡ s
no_effect asked s answer told other = no_change (first_denial asked s) asked s (λ done. other (told ∙ done))
