-- What the calls of a monitor leave and tell, from bytes.
use Rattle.std.specs.Prelude.{ℕ, ◌&&◌, if◌then◌else◌, List, [], Ok}
use Rattle.rbac_terms.specs.Name.{is_name}
use Rattle.rbac_terms.specs.State.{State, founding_state}
use Rattle.rbac_terms.specs.Effect.{effect, reply}
use Rattle.rbac_terms.specs.declared.answer.Answer.{Answer}
use Rattle.rbac_terms.specs.declared.answer.Answer.TheVariants.{Granted as GrantedAnswer, Denied as DeniedAnswer}
use Rattle.rbac_terms.specs.declared.command.Command.{Command}
use Rattle.rbac_terms.specs.declared.command.Command.TheVariants.{CheckAccess}
use Rattle.rbac_text.specs.Steps.{◌>>=◌}
use Rattle.rbac_founding.specs.FoundingFile.{founding_of, Reading as ReadingFile}
use Rattle.rbac_text.specs.Asked.{asked}
use Rattle.rbac_text.specs.Fields.{Reading}
use Rattle.rbac_text.specs.AnswerText.{answer_text}
use Rattle.rbac_embedded.specs.Kept.{Kept}
use Rattle.rbac_embedded.specs.declared.verdict.Verdict.{Verdict}
use Rattle.rbac_embedded.specs.declared.verdict.Verdict.TheVariants.{Granted, Refused, Denied, BadName}

-- the policy that a founding file founds, with no answer yet, or why the file is refused. Its group is not used.
abbrev pub founded : List ℕ → ReadingFile Kept
founded file = do
  founding ← founding_of file
  Ok (record { state = founding_state founding.vocabulary; answer = [] })

-- what a command leaves: its effect, and the text of its reply
abbrev pub after : Command → Kept → Kept
after command kept = record { state = effect command kept.state; answer = answer_text (reply command kept.state) }

-- what a text leaves, a client line or a command by itself, or why it is refused
abbrev pub applied : List ℕ → Kept → Reading Kept
applied text kept = do
  command ← asked text
  Ok (after command kept)

-- what the answer to CheckAccess tells
abbrev pub told : Answer → Verdict
told GrantedAnswer = Granted
told (DeniedAnswer denial) = Denied denial
told other = Refused

-- what a check of three texts tells: the answer to CheckAccess, where all of them are names
abbrev pub verdict : List ℕ → List ℕ → List ℕ → State → Verdict
verdict session operation object s =
    if is_name session && (is_name operation && is_name object) then told (reply (CheckAccess session operation object) s) else BadName
