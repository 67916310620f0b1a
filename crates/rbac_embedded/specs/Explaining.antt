-- Why a command would be denied, or a check is granted or refused: compact JSON without blanks, its keys in the order of their bytes.
use Rattle.std.specs.Prelude.{◌≡◌, ℕ, Bool, true, false, List, [], ◌∷◌, ◌++◌, codes, decimal, Option, Some, None, Ok, Err}
use Rattle.std.specs.FinMap.Entries.{find}
use Rattle.rbac_terms.specs.Name.{Name, Permission, name_cmp}
use Rattle.rbac_terms.specs.Denials.{denial_word, denial_number}
use Rattle.rbac_terms.specs.State.{State}
use Rattle.rbac_terms.specs.Effect.{session_holds}
use Rattle.rbac_terms.specs.declared.separation.Separation.{Separation}
use Rattle.rbac_terms.specs.declared.separation.Separation.TheVariants.{Static, Dynamic}
use Rattle.rbac_terms.specs.declared.command.Command.{Command}
use Rattle.rbac_terms.specs.declared.command.Command.TheVariants.{CheckAccess}
use Rattle.rbac_text.specs.Pieces.{in_quotes, array_text}
use Rattle.rbac_text.specs.Fields.{Reading}
use Rattle.rbac_text.specs.Asked.{asked}
use Rattle.rbac_decide.specs.declared.named.Counted.{Counted}
use Rattle.rbac_decide.specs.declared.named.Counted.TheVariants.{Users, Roles, Sessions, Sets}
use Rattle.rbac_decide.specs.Hindrance.{Hindrance, Named, first_hindrance}
use Rattle.rbac_decide.specs.Hindrance.Named.{a_user, a_role, a_session, an_operation, an_object, a_permission, a_grant, an_assignment, an_activation, a_pair, a_set, a_member, a_breach, a_count}
use Rattle.rbac_reasons.specs.Explanation.{Explains}
use Rattle.rbac_reasons.specs.Reason.{IsReason}
use Rattle.rbac_reasons.specs.declared.told.Explanation.{Explanation}
use Rattle.rbac_reasons.specs.declared.told.Explanation.TheVariants.{Nothing, Breach, Cycle, Size}
use Rattle.rbac_reasons.specs.declared.told.Reason.{Reason}
use Rattle.rbac_embedded.specs.Kept.{Kept}
use Rattle.rbac_embedded.specs.Subjects.{Told}
use Rattle.rbac_embedded.specs.declared.status.Status.TheVariants.{EmptyPlace, BadCommand}

-- ---- The names that make a precondition fail

-- "user":"ann"
unfoldable pub named : List ℕ → List ℕ → List ℕ
named key value = codes "\"" ++ key ++ codes "\":\"" ++ value ++ codes "\""

-- the same behind another
unfoldable pub next : List ℕ → List ℕ → List ℕ
next key value = codes "," ++ named key value

abbrev pub kind_word : Separation → List ℕ
kind_word Static = codes "static"
kind_word Dynamic = codes "dynamic"

-- what there can be no more of
abbrev pub counted_word : Counted → List ℕ
counted_word Users = codes "users"
counted_word Roles = codes "roles"
counted_word Sessions = codes "sessions"
counted_word (Sets Static) = codes "static sets"
counted_word (Sets Dynamic) = codes "dynamic sets"

-- a user who breaks a static set, a session that breaks a dynamic one
abbrev pub breach_text : Separation → Name → Name → List ℕ
breach_text Static user set = named (codes "kind") (codes "static") ++ next (codes "set") set ++ next (codes "user") user
breach_text Dynamic session set = named (codes "kind") (codes "dynamic") ++ next (codes "session") session ++ next (codes "set") set

abbrev pub names_text : Named → List ℕ
names_text (a_user user) = named (codes "user") user
names_text (a_role role) = named (codes "role") role
names_text (a_session session) = named (codes "session") session
names_text (an_operation operation) = named (codes "operation") operation
names_text (an_object object) = named (codes "object") object
names_text (a_permission operation object) = named (codes "object") object ++ next (codes "operation") operation
names_text (a_grant operation object role) = named (codes "object") object ++ next (codes "operation") operation ++ next (codes "role") role
names_text (an_assignment user role) = named (codes "role") role ++ next (codes "user") user
names_text (an_activation session role) = named (codes "role") role ++ next (codes "session") session
names_text (a_pair ascendant descendant) = named (codes "ascendant") ascendant ++ next (codes "descendant") descendant
names_text (a_set kind set) = named (codes "kind") (kind_word kind) ++ next (codes "set") set
names_text (a_member kind set role) = named (codes "kind") (kind_word kind) ++ next (codes "role") role ++ next (codes "set") set
names_text (a_breach kind holder set) = breach_text kind holder set
names_text (a_count counted) = named (codes "counted") (counted_word counted)

-- ---- What the names don't tell

-- roles from the first on, each behind a comma
abbrev pub next_role : Name → List ℕ
next_role role = codes "," ++ in_quotes role

-- a number behind its key, and a comma
unfoldable pub numbered : List ℕ → ℕ → List ℕ
numbered key number = key ++ decimal number ++ codes ","

-- a set's number, or the roles from the descendant down to the ascendant
abbrev pub before_text : Explanation → List ℕ
before_text Nothing = []
before_text (Breach roles number) = numbered (codes "\"cardinality\":") number
before_text (Cycle chain) = codes "\"chain\":" ++ array_text in_quotes (chain.first ∷ chain.rest.items) ++ codes ","
before_text (Size size number) = numbered (codes "\"cardinality\":") number

-- the roles of a breach, or how many roles a set would have
abbrev pub after_text : Explanation → List ℕ
after_text Nothing = []
after_text (Breach roles number) = codes ",\"roles\":" ++ array_text in_quotes roles
after_text (Cycle chain) = []
after_text (Size size number) = codes ",\"size\":" ++ decimal size

-- ---- What is told of a command

-- {"cardinality":2,"denied":"SsdViolated","names":{"kind":"static","set":"duty","user":"ann"},"number":18,"roles":["boss","payer"]}
abbrev pub denied_text : Hindrance → Explanation → List ℕ
denied_text hindrance explanation =
    codes "{" ++ before_text explanation ++ codes "\"denied\":\"" ++ denial_word hindrance.denial ++ codes "\",\"names\":{" ++ names_text hindrance.named
    ++ codes "},\"number\":" ++ decimal (denial_number hindrance.denial) ++ after_text explanation ++ codes "}"

-- {"chain":["doctor","reader"],"granted":true}: an active role, and the roles from it down to one that is granted the permission
abbrev pub granted_text : Reason → List ℕ
granted_text reason = codes "{\"chain\":" ++ array_text in_quotes (reason.active ∷ reason.inherited.items) ++ codes ",\"granted\":true}"

-- a check that is not denied
abbrev pub TellsCheck : Bool → State → Name → Permission → List ℕ → Type 0
TellsCheck true s session permission text = (reason : Reason) × IsReason s session permission reason × (text ≡ granted_text reason)
TellsCheck false s session permission text = text ≡ codes "{\"granted\":false}"

-- a command that is not denied
abbrev pub TellsUndenied : Command → State → List ℕ → Type 0
TellsUndenied (CheckAccess session operation object) s text = TellsCheck (session_holds (find name_cmp session s.sessions) s (operation, object)) s session (operation, object) text
TellsUndenied c s text = text ≡ codes "{\"denied\":null}"

-- a command: what stands in its way, with the names and what they don't tell; or why a check is granted or refused; or that nothing does
abbrev pub TellsUnless : Option Hindrance → Command → State → List ℕ → Type 0
TellsUnless (Some hindrance) c s text = (explanation : Explanation) × Explains c s hindrance explanation × (text ≡ denied_text hindrance explanation)
TellsUnless None c s text = TellsUndenied c s text

abbrev pub TellsWhy : Command → State → List ℕ → Type 0
TellsWhy c s text = TellsUnless (first_hindrance c s) c s text

-- ---- From bytes

-- of a text, a client line or a command by itself, what is told of its command, or why it is refused
abbrev pub TellsAsked : Reading Command → State → Told → Type 0
TellsAsked (Ok command) s told = (text : List ℕ) × (told ≡ Ok text) × TellsWhy command s text
TellsAsked (Err refusal) s told = told ≡ Err (BadCommand refusal)

abbrev pub IsExplanation : List ℕ → Option Kept → Told → Type 0
IsExplanation text None told = told ≡ Err EmptyPlace
IsExplanation text (Some kept) told = TellsAsked (asked text) kept.state told
