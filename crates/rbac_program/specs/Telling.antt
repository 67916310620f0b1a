-- What is told of a policy.
use Rattle.std.specs.Prelude.{◌≡◌, ℕ, List, Bool, true, false, Ok}
use Rattle.rbac_terms.specs.State.{State}
use Rattle.rbac_terms.specs.Effect.{reply}
use Rattle.rbac_terms.specs.declared.command.Command.{Command}
use Rattle.rbac_terms.specs.declared.command.Command.TheVariants.{CheckAccess}
use Rattle.rbac_text.specs.ReadCommand.{command}
use Rattle.rbac_dump.specs.DumpText.{dump_text}
use Rattle.rbac_pages.specs.GranteeText.{TellsWho}
use Rattle.rbac_pages.specs.GraphText.{graph_text}
use Rattle.rbac_pages.specs.PageText.{page_text}
use Rattle.rbac_pages.specs.WhyText.{TellsWhy, verdict_of}
use Rattle.rbac_pages.specs.declared.explanation.Explanation.{Explanation}
use Rattle.rbac_pages.specs.declared.explanation.Verdict.{Verdict}
use Rattle.rbac_pages.specs.declared.explanation.Verdict.TheVariants.{Allowed, Refused, Denied}
use Rattle.rbac_program.specs.declared.words.Asked.{Asked}
use Rattle.rbac_program.specs.declared.words.Asked.TheVariants.{Tell}
use Rattle.rbac_program.specs.declared.words.Question.{Question}
use Rattle.rbac_program.specs.declared.words.Question.TheVariants.{Dump, Page, Graph, WhyCheck, WhyCommand, Who}

-- what a command would be answered, and why
abbrev pub TellsOf : Command → State → Explanation → Type 0
TellsOf asked s told = (told.verdict ≡ verdict_of (reply asked s)) × TellsWhy asked s told.text.items

-- the same of the command that a text is read as
abbrev pub TellsOfText : List ℕ → State → Explanation → Type 0
TellsOfText text s told = (asked : Command) × (command text ≡ Ok asked) × TellsOf asked s told

-- a text of a policy, which allows nothing and denies nothing
abbrev pub IsPage : List ℕ → Explanation → Type 0
IsPage text told = (told.verdict ≡ Allowed) × (told.text.items ≡ text)

abbrev pub Tells : Question → State → Explanation → Type 0
Tells Dump s told = IsPage (dump_text s) told
Tells Page s told = IsPage (page_text s) told
Tells Graph s told = IsPage (graph_text s) told
Tells (WhyCheck session operation object) s told = TellsOf (CheckAccess session.now operation.now object.now) s told
Tells (WhyCommand text) s told = TellsOfText text.now s told
Tells (Who operation object) s told = TellsWho s (operation.now, object.now) told

-- a question is why or who, and no page
abbrev pub is_question : Question → Bool
is_question Dump = false
is_question Page = false
is_question Graph = false
is_question other = true

-- what is asked for is the answer to a question
abbrev pub asks_verdict : Asked → Bool
asks_verdict (Tell lines question) = is_question question
asks_verdict other = false

-- the status that a verdict is
abbrev pub status_of : Verdict → ℕ
status_of Allowed = 0
status_of Refused = 3
status_of Denied = 4
