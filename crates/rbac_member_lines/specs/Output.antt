-- What is written for an input whose lines one member takes, and the member after it.
use Rattle.std.specs.Prelude.{ℕ, ◌≡◌, ◌+◌, Bool, true, List, [], ◌∷◌, length, codes, Option, Some, None, is_err, Ok, Err}
use Rattle.line_engine.specs.Lines.{lines, longest_line}
use Rattle.line_engine.specs.Output.{Taker, texts, state_after, refused_count}
use Rattle.rbac_words.specs.World.{least}
use Rattle.rbac_words.specs.Keeping.Member.{Member, due_at, delivery}
use Rattle.rbac_words.specs.declared.message.Submission.{Submission}
use Rattle.rbac_dump.specs.Dump.{dump_of}
use Rattle.rbac_text.specs.declared.refusal.LineRefusal.{LineRefusal}
use Rattle.rbac_text.specs.Fields.{Reading}
use Rattle.rbac_lines.specs.Text.{refused_text, refusal_text, line_refusal_text}
use Rattle.rbac_embedded_member.specs.Step.{Step, done, batch_step, own_step, message_step, deliver_step}
use Rattle.rbac_embedded_member.specs.Texts.{Told, batch_told, message_told, message_at, record_at}
use Rattle.rbac_embedded_member.specs.Holding.{if_held}
use Rattle.rbac_embedded_member.specs.declared.status.MemberStatus.{MemberStatus}
use Rattle.rbac_embedded_member.specs.declared.status.MemberStatus.TheVariants.{Plain, Refused, MessageTooLong, NotYet, Observes, NotAReview}
use Rattle.rbac_member_lines.specs.declared.asked.Asked.{Asked}
use Rattle.rbac_member_lines.specs.declared.asked.Asked.TheVariants.{Submit, Receive, Own, Deliver, Tell}
use Rattle.rbac_member_lines.specs.declared.asked.Question.{Question}
use Rattle.rbac_member_lines.specs.declared.asked.Question.TheVariants.{Next, Answer, Message, Record, Waits, Dump}
use Rattle.rbac_member_lines.specs.Asked.{asked}
use Rattle.rbac_member_lines.specs.Text.{numbered_text, received_text, message_line, record_line, delivered_line, waits_line, dump_line}

-- the most bytes of a message's text: the line that brings it to another member then has at most 65,536 bytes, also as message 65,536 of
-- member 8
abbrev pub longest_carried : ℕ
longest_carried = 65485

-- ---- What a line does

abbrev pub asked_step : Asked → Member → Step
asked_step (Submit one) v = batch_step longest_carried one.caller one.serial one.commands v
asked_step (Receive one) v = message_step one.from one.number one.message v
asked_step (Own number message) v = own_step longest_carried number message v
asked_step Deliver v = deliver_step v
asked_step (Tell question) v = done v 0

-- ---- What it is answered with: a text, or why there is none

-- the text of what was done, unless it was refused
abbrev pub done_unless : MemberStatus → List ℕ → Told
done_unless (Plain status) text = Ok text
done_unless (Refused refusal) text = Err (Refused refusal)
done_unless MessageTooLong text = Err MessageTooLong
done_unless NotYet text = Err NotYet
done_unless Observes text = Err Observes
done_unless NotAReview text = Err NotAReview

-- a text that is told, in a line
abbrev pub told_line : (List ℕ → List ℕ) → Told → Told
told_line in_line (Ok text) = Ok (in_line text)
told_line in_line (Err status) = Err status

-- the record that is delivered, and its number
abbrev pub delivered : ℕ → Member → Option Submission → List ℕ
delivered line v None = record_line line []
delivered line v (Some x) = delivered_line line (length v.history + 1) (delivery v x)

-- what it tells
abbrev pub question_told : ℕ → Question → Member → Told
question_told line (Next one) v = told_line (message_line line) (batch_told longest_carried one.caller one.serial one.commands v)
question_told line (Answer one) v = told_line (message_line line) (message_told one.from one.number one.message v)
question_told line (Message number) v = told_line (message_line line) (message_at number v)
question_told line (Record number) v = told_line (record_line line) (record_at number v)
question_told line Waits v = Ok (waits_line line (if_held v (least v.held)))
question_told line Dump v = Ok (dump_line line (dump_of longest_line v.policy))

abbrev pub asked_told : ℕ → Asked → Member → Told
asked_told line (Submit one) v = let s = batch_step longest_carried one.caller one.serial one.commands v in done_unless s.status (numbered_text line s.told)
asked_told line (Receive one) v = let s = message_step one.from one.number one.message v in done_unless s.status (received_text line s.told)
asked_told line (Own number message) v = let s = own_step longest_carried number message v in done_unless s.status (numbered_text line s.told)
asked_told line Deliver v = Ok (delivered line v (due_at v))
asked_told line (Tell question) v = question_told line question v

-- ---- One line

abbrev pub status_text : ℕ → MemberStatus → List ℕ
status_text line (Plain status) = []
status_text line (Refused refusal) = refusal_text line refusal
status_text line MessageTooLong = refused_text line (codes "MessageTooLong")
status_text line NotYet = refused_text line (codes "NotYet")
status_text line Observes = refused_text line (codes "Observes")
status_text line NotAReview = refused_text line (codes "NotAReview")

abbrev pub told_text : ℕ → Told → List ℕ
told_text line (Ok text) = text
told_text line (Err status) = status_text line status

abbrev pub read_told : ℕ → Reading Asked → Member → List ℕ
read_told line (Ok a) v = told_text line (asked_told line a v)
read_told line (Err refusal) v = line_refusal_text line refusal

abbrev pub is_read_refused : ℕ → Reading Asked → Member → Bool
is_read_refused line (Ok a) v = is_err (asked_told line a v)
is_read_refused line (Err refusal) v = true

abbrev pub read_step : Reading Asked → Member → Member
read_step (Ok a) v = (asked_step a v).member
read_step (Err refusal) v = v

-- a line's text, whether it is refused, and the member after it: a refused line changes nothing
abbrev pub serving : Taker Member
serving = record {
  text_of = λ v line text. read_told line (asked text) v;
  is_refused = λ v line text. is_read_refused line (asked text) v;
  next = λ v line text. read_step (asked text) v;
}

-- what taking a line does, where no want of memory keeps it from being taken
abbrev pub ServesLine : Member → ℕ → List ℕ → List ℕ → Bool → Member → Type 0
ServesLine old number line text refused new =
    (text ≡ read_told number (asked line) old) × ((refused ≡ is_read_refused number (asked line) old) × (new ≡ read_step (asked line) old))

-- ---- A whole input

-- the texts of all its lines, in order
abbrev pub member_output : List ℕ → Member → List ℕ
member_output input v = texts serving 1 v (lines input)

-- the member after its lines
abbrev pub member_after : List ℕ → Member → Member
member_after input v = state_after serving 1 v (lines input)

-- how many of its lines are refused
abbrev pub refused_lines : List ℕ → Member → ℕ
refused_lines input v = refused_count serving 1 v (lines input)
