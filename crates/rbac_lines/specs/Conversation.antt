-- A conversation with a desk: each line its answer, in order.
use Rattle.std.specs.Prelude.{◌≡◌, ◌≢◌, ◌⊎◌, ℕ, List, Bool, true, Ok, Err, is_err}
use Rattle.line_engine.specs.Runs.{TakesAll}
use Rattle.rbac_terms.specs.declared.command.Command.{Command}
use Rattle.rbac_lines.specs.declared.refusal.DeskRefusal.TheVariants.{NoMemory}
use Rattle.rbac_text.specs.Fields.{Reading}
use Rattle.rbac_text.specs.Client.{client}
use Rattle.rbac_lines.specs.Text.{Reply, reply_text, line_refusal_text}

-- what a desk tells: the desk before, the member and the command that it was asked for, its reply, the desk after
abbrev pub Asks : Type 0 → Type 1
Asks D = D → ℕ → Command → Reply → D → Type 0

-- memory ran out: the desk was not asked, or its reply is lost
abbrev pub IsLost : {D : Type 0} → Asks D → D → ℕ → Command → D → Type 0
IsLost asks old at command new = (new ≡ old) ⊎ ((reply : Reply) × (reply ≢ Err NoMemory) × asks old at command reply new)

-- where a line asks for a command, the desk is asked for that once, and the line's text is the reply; where it does not, the
-- desk is asked for nothing, and the text is why
abbrev pub Answers : {D : Type 0} → Asks D → D → ℕ → Reading (ℕ × Command) → List ℕ → Bool → D → Type 0
Answers asks old number (Ok (at, command)) text is_refused new =
    (reply : Reply) × (reply ≢ Err NoMemory) × asks old at command reply new × (text ≡ reply_text number reply) × (is_refused ≡ is_err reply)
Answers asks old number (Err refusal) text is_refused new = (new ≡ old) × (text ≡ line_refusal_text number refusal) × (is_refused ≡ true)

-- the answer of one line: the desk before, the line's number, the line, its text, whether that is a refusal, the desk after
abbrev pub AnswersLine : {D : Type 0} → Asks D → D → ℕ → List ℕ → List ℕ → Bool → D → Type 0
AnswersLine asks old number line text is_refused new = Answers asks old number (client line) text is_refused new

-- a conversation over these lines: each with its answer, in order, in this text, of which so many lines are refusals. What is
-- kept of a line that is too long asks for the same as the line
abbrev pub Conversation : {D : Type 0} → Asks D → D → List (List ℕ) → List ℕ → ℕ → D → Type 0
Conversation asks old these text refused new = TakesAll (AnswersLine asks) 1 old these text refused new
