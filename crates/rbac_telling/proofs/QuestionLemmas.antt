-- A check and a review change nothing.
use Rattle.std.proofs.Common.{◌≡◌, Option, Some, None, refl}
use Rattle.rbac_terms.specs.Name.{Name}
use Rattle.rbac_terms.specs.State.{State}
use Rattle.rbac_terms.specs.Effect.{effect_unless}
use Rattle.rbac_terms.specs.declared.command.Command.TheVariants.{CheckAccess, Review as ReviewCommand}
use Rattle.rbac_terms.specs.declared.review.Review.{Review}
use Rattle.rbac_terms.specs.declared.answer.Denial.{Denial}

pub check_changes_nothing : (denial : Option Denial) (session operation object : Name) (s : State) → effect_unless denial (CheckAccess session operation object) s ≡ s
check_changes_nothing (Some first) session operation object s = refl
check_changes_nothing None session operation object s = refl

pub review_changes_nothing : (denial : Option Denial) (review : Review) (s : State) → effect_unless denial (ReviewCommand review) s ≡ s
review_changes_nothing (Some first) review s = refl
review_changes_nothing None review s = refl
