-- What is told of a command is what stands in its way, or why a check is granted.
use Rattle.std.proofs.Common.{◌≡◌, Option, Some, None, Bool, true, false, ℕ, List, Result, Ok, Err, ◌∷◌, subst, refl}
use Rattle.std.specs.Prelude.{if◌then◌else◌, IfOk}
use Rattle.std.specs.FinMap.Entries.{find}
use Rattle.rbac_terms.specs.Name.{Name, Permission, name_cmp}
use Rattle.rbac_terms.specs.Effect.{session_holds, reply_unless}
use Rattle.rbac_terms.specs.State.{State}
use Rattle.rbac_terms.specs.declared.answer.Answer.TheVariants.{Granted, Refused}
use Rattle.rbac_terms.specs.declared.answer.Denial.{Denial}
use Rattle.rbac_terms.specs.declared.command.Command.{Command}
use Rattle.rbac_terms.specs.declared.command.Command.TheVariants.{CheckAccess}
use Rattle.rbac_decide.specs.Hindrance.{Hindrance}
use Rattle.rbac_text.specs.Asked.{asked}
use Rattle.rbac_reasons.specs.Explanation.{Explains}
use Rattle.rbac_reasons.specs.Reason.{IsReason}
use Rattle.rbac_reasons.specs.declared.told.Explanation.{Explanation}
use Rattle.rbac_reasons.specs.declared.told.Reason.{Reason}
use Rattle.rbac_embedded.specs.Kept.{Kept}
use Rattle.rbac_embedded.specs.Subjects.{Told}
use Rattle.rbac_embedded.specs.declared.status.Status.TheVariants.{EmptyPlace}
use Rattle.rbac_embedded.specs.Explaining.{denied_text, granted_text, TellsCheck, TellsUndenied, TellsUnless, TellsAsked, IsExplanation}

pub ok_with : {T E : Type 0} (r : Result T E) (P Q : T → Type 0) → ((x : T) → P x → Q x) → IfOk r P → IfOk r Q
ok_with (Ok x) P Q given h = given x h
ok_with (Err e) P Q given h = tt

granted_check : (holds : Bool) (s : State) (session : Name) (permission : Permission) (found : Reason) (text : List ℕ)
    → (if holds then Granted else Refused) ≡ Granted → IsReason s session permission found → text ≡ granted_text found → TellsCheck holds s session permission text
granted_check true s session permission found text granted why told = (found, why, told)
granted_check false s session permission found text granted why told = absurd (let f : ⊥ = cc in f)

pub granted_unless : (denial : Option Denial) (s : State) (session operation object : Name) (found : Reason) (text : List ℕ)
    → denial ≡ None → reply_unless denial (CheckAccess session operation object) s ≡ Granted → IsReason s session (operation, object) found → text ≡ granted_text found
    → TellsUndenied (CheckAccess session operation object) s text
granted_unless (Some first) s session operation object found text none granted why told = absurd (let f : ⊥ = cc in f)
granted_unless None s session operation object found text none granted why told = granted_check (session_holds (find name_cmp session s.sessions) s (operation, object)) s session (operation, object) found text granted why told

pub denied_by : (first : Option Hindrance) (c : Command) (s : State) (hindrance : Hindrance) (explanation : Explanation) (text : List ℕ)
    → Some hindrance ≡ first → Explains c s hindrance explanation → text ≡ denied_text hindrance explanation → TellsUnless first c s text
denied_by first c s hindrance explanation text is why told = subst (λ o. TellsUnless o c s text) is (explanation, why, told)

pub explained : (place : Option Kept) (kept : Kept) (text : List ℕ) (told : Told) → Some kept ≡ place → TellsAsked (asked text) kept.state told → IsExplanation text place told
explained place kept text told is tells = subst (λ o. IsExplanation text o told) is tells

pub not_explained : (place : Option Kept) (text : List ℕ) → None ≡ place → IsExplanation text place (Err EmptyPlace)
not_explained place text is = subst (λ o. IsExplanation text o (Err EmptyPlace)) is refl
