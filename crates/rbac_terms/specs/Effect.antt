-- What a command leaves, and what it is answered.
use Rattle.std.specs.Prelude.{Option, Some, None, Bool, if◌then◌else◌}
use Rattle.std.specs.FinMap.Entries.{find}
use Rattle.rbac_terms.specs.Name.{Permission, name_cmp}
use Rattle.rbac_terms.specs.State.{State, Session}
use Rattle.rbac_terms.specs.Authorization.{holds}
use Rattle.rbac_terms.specs.Change.{change}
use Rattle.rbac_terms.specs.Reviews.{review_answer}
use Rattle.rbac_terms.specs.Rows.{found_and, first_denial}
use Rattle.rbac_terms.specs.declared.command.Command.{Command}
use Rattle.rbac_terms.specs.declared.command.Command.TheVariants.{CheckAccess, Review as ReviewCommand}
use Rattle.rbac_terms.specs.declared.answer.Denial.{Denial}
use Rattle.rbac_terms.specs.declared.answer.Answer.{Answer}
use Rattle.rbac_terms.specs.declared.answer.Answer.TheVariants.{Done, Granted, Refused, Denied}

-- whether there is the session, and it holds the permission
abbrev pub session_holds : Option Session → State → Permission → Bool
session_holds session s permission = found_and (λ x. holds s x permission) session

-- the answer to a command that is not denied
abbrev pub answer : Command → State → Answer
answer (CheckAccess session operation object) s = if session_holds (find name_cmp session s.sessions) s (operation, object) then Granted else Refused
answer (ReviewCommand review) s = review_answer review s
answer c s = Done

abbrev pub effect_unless : Option Denial → Command → State → State
effect_unless (Some denial) c s = s
effect_unless None c s = change c s

abbrev pub reply_unless : Option Denial → Command → State → Answer
reply_unless (Some denial) c s = Denied denial
reply_unless None c s = answer c s

-- the state after a command: a denied command changes nothing
abbrev pub effect : Command → State → State
effect c s = effect_unless (first_denial c s) c s

-- the answer to a command: a denial names the first failing precondition
abbrev pub reply : Command → State → Answer
reply c s = reply_unless (first_denial c s) c s
