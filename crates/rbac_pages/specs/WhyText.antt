-- What a command would be answered, and why.
use Rattle.std.specs.Prelude.{◌≡◌, Option, Some, None, Bool, true, false, ℕ, List, ◌++◌, codes}
use Rattle.std.specs.List.{flat_map}
use Rattle.std.specs.FinMap.Entries.{find}
use Rattle.rbac_terms.specs.Name.{Name, Permission, name_cmp}
use Rattle.rbac_terms.specs.Denials.{denial_word}
use Rattle.rbac_terms.specs.Effect.{session_holds}
use Rattle.rbac_terms.specs.Rows.{first_denial}
use Rattle.rbac_terms.specs.State.{State, Session}
use Rattle.rbac_terms.specs.declared.answer.Answer.{Answer}
use Rattle.rbac_terms.specs.declared.answer.Answer.TheVariants.{Refused, Denied as DeniedAnswer}
use Rattle.rbac_terms.specs.declared.answer.Denial.{Denial}
use Rattle.rbac_terms.specs.declared.command.Command.{Command}
use Rattle.rbac_terms.specs.declared.command.Command.TheVariants.{AddActiveRole, CheckAccess}
use Rattle.rbac_decide.specs.Hindrance.{Hindrance, first_hindrance}
use Rattle.rbac_reasons.specs.Explanation.{Explains}
use Rattle.rbac_reasons.specs.Reason.{IsReason}
use Rattle.rbac_reasons.specs.declared.told.Explanation.{Explanation}
use Rattle.rbac_reasons.specs.declared.told.Reason.{Reason}
use Rattle.rbac_pages.specs.GranteeText.{grantees}
use Rattle.rbac_pages.specs.HindranceText.{denied_text}
use Rattle.rbac_pages.specs.declared.explanation.Verdict.{Verdict}
use Rattle.rbac_pages.specs.declared.explanation.Verdict.TheVariants.{Allowed, Refused as RefusedVerdict, Denied}

-- the active role, the roles from it down to the one that is granted the permission, each of which the one before it inherits, and the
-- permission
abbrev pub inherits_text : Name → List ℕ
inherits_text role = codes "  which inherits " ++ role ++ codes "\n"

abbrev pub granted_text : Permission → List ℕ
granted_text permission = codes "  which is granted " ++ permission.0 ++ codes " " ++ permission.1 ++ codes "\n"

abbrev pub reason_text : Name → Permission → Reason → List ℕ
reason_text session permission reason =
    codes "Granted: session " ++ session ++ codes " has the active role " ++ reason.active ++ codes "\n"
    ++ flat_map inherits_text reason.inherited.items
    ++ granted_text permission

-- whether a role can be activated
abbrev pub activation_text : Option Denial → List ℕ
activation_text None = codes " would grant it, and can be activated\n"
activation_text (Some denial) = codes " would grant it, but activating it is denied: " ++ denial_word denial ++ codes "\n"

--   doctor would grant it, but activating it is denied: NotAuthorized
-- a role that would grant it, and whether the session's owner can activate it there
abbrev pub grantee_text : State → Name → Name → Name → List ℕ
grantee_text s owner session role = codes "  " ++ role ++ activation_text (first_denial (AddActiveRole owner session role) s)

-- each role that would grant it
abbrev pub grantees_text : State → Name → Permission → Option Session → List ℕ
grantees_text s session permission None = codes ""
grantees_text s session permission (Some found) = flat_map (grantee_text s found.owner session) (grantees s permission)

abbrev pub refused_text : State → Name → Permission → List ℕ
refused_text s session permission =
    codes "Refused: no active role has the permission, itself or by a role that it inherits\n" ++ grantees_text s session permission (find name_cmp session s.sessions)

-- what a check that is not denied is answered
abbrev pub TellsCheck : Bool → State → Name → Permission → List ℕ → Type 0
TellsCheck true s session permission text = (reason : Reason) × IsReason s session permission reason × (text ≡ reason_text session permission reason)
TellsCheck false s session permission text = text ≡ refused_text s session permission

-- what is told of a command: what stands in its way, or why a check is granted or refused, or that nothing does
abbrev pub TellsUnless : Option Denial → Command → State → List ℕ → Type 0
TellsUnless (Some denial) c s text =
    (hindrance : Hindrance) × (explanation : Explanation) × (first_hindrance c s ≡ Some hindrance) × Explains c s hindrance explanation × (text ≡ denied_text hindrance explanation)
TellsUnless None (CheckAccess session operation object) s text =
    TellsCheck (session_holds (find name_cmp session s.sessions) s (operation, object)) s session (operation, object) text
TellsUnless None c s text = text ≡ codes "Not denied: no precondition fails\n"

abbrev pub TellsWhy : Command → State → List ℕ → Type 0
TellsWhy c s text = TellsUnless (first_denial c s) c s text

-- the verdict that an answer is
abbrev pub verdict_of : Answer → Verdict
verdict_of (DeniedAnswer denial) = Denied
verdict_of Refused = RefusedVerdict
verdict_of answer = Allowed
