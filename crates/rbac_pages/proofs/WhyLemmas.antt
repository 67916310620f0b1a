-- What is told of a check that is not denied.
use Rattle.std.proofs.Common.{◌≡◌, Option, Some, None, Bool, true, false, ℕ, List, refl}
use Rattle.std.specs.Prelude.{if◌then◌else◌}
use Rattle.std.specs.FinMap.Entries.{find}
use Rattle.rbac_terms.specs.Name.{Name, Permission, name_cmp}
use Rattle.rbac_terms.specs.Effect.{session_holds, reply_unless}
use Rattle.rbac_terms.specs.State.{State}
use Rattle.rbac_terms.specs.declared.answer.Answer.TheVariants.{Granted, Refused}
use Rattle.rbac_terms.specs.declared.answer.Denial.{Denial}
use Rattle.rbac_terms.specs.declared.command.Command.TheVariants.{CheckAccess}
use Rattle.rbac_reasons.specs.Reason.{IsReason}
use Rattle.rbac_reasons.specs.declared.told.Reason.{Reason}
use Rattle.rbac_pages.specs.WhyText.{reason_text, refused_text, TellsCheck, TellsUnless}

pub granted_check : (holds : Bool) (s : State) (session : Name) (permission : Permission) (found : Reason) (text : List ℕ)
    → (if holds then Granted else Refused) ≡ Granted → IsReason s session permission found → text ≡ reason_text session permission found → TellsCheck holds s session permission text
granted_check true s session permission found text granted why told = (found, why, told)
granted_check false s session permission found text granted why told = absurd (let f : ⊥ = cc in f)

pub granted_unless : (denial : Option Denial) (s : State) (session operation object : Name) (found : Reason) (text : List ℕ)
    → reply_unless denial (CheckAccess session operation object) s ≡ Granted → IsReason s session (operation, object) found → text ≡ reason_text session (operation, object) found
    → TellsUnless denial (CheckAccess session operation object) s text
granted_unless (Some first) s session operation object found text granted why told = absurd (let f : ⊥ = cc in f)
granted_unless None s session operation object found text granted why told = granted_check (session_holds (find name_cmp session s.sessions) s (operation, object)) s session (operation, object) found text granted why told

pub refused_check : (holds : Bool) (s : State) (session : Name) (permission : Permission) (text : List ℕ)
    → ((if holds then Granted else Refused) ≡ Granted → ⊥) → text ≡ refused_text s session permission → TellsCheck holds s session permission text
refused_check true s session permission text refused told = absurd (refused refl)
refused_check false s session permission text refused told = told

pub refused_unless : (denial : Option Denial) (s : State) (session operation object : Name) (text : List ℕ)
    → denial ≡ None → (reply_unless denial (CheckAccess session operation object) s ≡ Granted → ⊥) → text ≡ refused_text s session (operation, object)
    → TellsUnless denial (CheckAccess session operation object) s text
refused_unless (Some first) s session operation object text none refused told = absurd (let f : ⊥ = cc in f)
refused_unless None s session operation object text none refused told = refused_check (session_holds (find name_cmp session s.sessions) s (operation, object)) s session (operation, object) text refused told
