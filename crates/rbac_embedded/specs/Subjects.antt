-- What is told of who may perform an operation on an object, from bytes.
use Rattle.std.specs.Prelude.{ℕ, if◌then◌else◌, List, Option, Some, None, Result, Ok, Err}
use Rattle.rbac_terms.specs.Name.{Name, Permission, is_name}
use Rattle.rbac_terms.specs.State.{State}
use Rattle.rbac_terms.specs.Subjects.{permitted_users, permitted_sessions, subjects_denial}
use Rattle.rbac_terms.specs.declared.answer.Denial.{Denial}
use Rattle.rbac_text.specs.Steps.{◌>>=◌}
use Rattle.rbac_text.specs.AnswerText.{subjects_text}
use Rattle.rbac_embedded.specs.declared.status.Status.{Status}
use Rattle.rbac_embedded.specs.declared.status.Status.TheVariants.{Checked}
use Rattle.rbac_embedded.specs.declared.verdict.Verdict.TheVariants.{Denied, BadName}

-- a text, or why there is none
abbrev pub Told : Type 0
Told = Result (List ℕ) Status

-- a text as a name
abbrev pub name_of : List ℕ → Result Name Status
name_of text = if is_name text then Ok text else Err (Checked BadName)

-- the sessions and the users that may
abbrev pub listed_text : State → Permission → List ℕ
listed_text s permission = subjects_text (permitted_sessions s permission) (permitted_users s permission)

abbrev pub listed_unless : Option Denial → List ℕ → Told
listed_unless None text = Ok text
listed_unless (Some denial) text = Err (Checked (Denied denial))

-- who may: both texts are names, and then those of an operation and of an object
abbrev pub subjects : List ℕ → List ℕ → State → Told
subjects operation object s = do
  operation ← name_of operation
  object ← name_of object
  listed_unless (subjects_denial operation object s) (listed_text s (operation, object))
