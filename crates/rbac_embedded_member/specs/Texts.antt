-- The texts that a member tells, and why there is none. The member stays as it is.
use Rattle.std.specs.Prelude.{ℕ, ◌≡◌, ◌≤◌, ⊤, ◌-◌, nat_le, nat_lt, if◌then◌else◌, List, [], ◌∷◌, length, Option, Some, None, option_map, ok_or, slice_get, Result, Ok, Err}
use Rattle.rbac_terms.specs.Effect.{reply}
use Rattle.rbac_terms.specs.declared.command.Command.{Command}
use Rattle.rbac_words.specs.World.{submit_refusal}
use Rattle.rbac_words.specs.Keeping.Member.{Member, node_of, batch, message_refusal}
use Rattle.rbac_words.specs.Keeping.Own.{first_answer}
use Rattle.rbac_words.specs.declared.event.Refusal.{Refusal}
use Rattle.rbac_words.specs.declared.event.Refusal.TheVariants.{NotSent}
use Rattle.rbac_words.specs.declared.message.Message.{Message}
use Rattle.rbac_words.specs.declared.message.Message.TheVariants.{Ack}
use Rattle.rbac_words.specs.declared.stamp.Stamp.{Stamp}
use Rattle.rbac_text.specs.ReadCommand.{command}
use Rattle.rbac_text.specs.AnswerText.{answer_text as reply_text}
use Rattle.rbac_text.specs.Fields.{Reading}
use Rattle.rbac_decide.specs.Asking.{is_question}
use Rattle.rbac_dump.specs.DumpText.{dump_text}
use Rattle.rbac_embedded.specs.Subjects.{Told as PolicyTold, subjects as policy_subjects}
use Rattle.rbac_embedded.specs.declared.status.Status.TheVariants.{BadCommand}
use Rattle.rbac_message_text.specs.MessageText.{longest_message, message_text}
use Rattle.rbac_message_text.specs.Message.{message_read, commands_read}
use Rattle.rbac_message_text.specs.RecordText.{record_text}
use Rattle.rbac_embedded_member.specs.declared.status.MemberStatus.{MemberStatus}
use Rattle.rbac_embedded_member.specs.declared.status.MemberStatus.TheVariants.{Plain, Refused, MessageTooLong, NotAReview}
use Rattle.rbac_embedded_member.specs.Step.{status_of}

-- a text, or why there is none
abbrev pub Told : Type 0
Told = Result (List ℕ) MemberStatus

-- ---- What it sent and delivered

-- item number n of a list, counted from 1
abbrev pub item_at : {X : Type 0} → List X → ℕ → Option X
item_at xs number = if nat_le 1 number then slice_get xs (number - 1) else None

-- a message that it sent
abbrev pub message_at : ℕ → Member → Told
message_at number v = ok_or (option_map message_text (item_at v.sent number)) (Refused NotSent)

-- a record of its history
abbrev pub record_at : ℕ → Member → Told
record_at number v = ok_or (option_map record_text (item_at v.history number)) (Refused NotSent)

-- the dump of its policy
abbrev pub policy_dump : Member → Told
policy_dump v = Ok (dump_text v.policy)

-- the answer that a command would have by its policy, where that is a review or a check, which change nothing
abbrev pub question_told : Command → Member → Told
question_told asked v = if is_question asked then Ok (reply_text (reply asked v.policy)) else Err NotAReview

-- who may perform an operation on an object by its policy
abbrev pub plain_told : PolicyTold → Told
plain_told (Ok text) = Ok text
plain_told (Err status) = Err (Plain status)

abbrev pub subjects : List ℕ → List ℕ → Member → Told
subjects operation object v = plain_told (policy_subjects operation object v.policy)

-- that message's text, where it is not too long, reads as it
abbrev pub ReadsBackAs : Option Message → Type 0
ReadsBackAs None = ⊤
ReadsBackAs (Some m) = length (message_text m) ≤ longest_message → message_read (message_text m) ≡ Ok m

-- ---- What it would send next, to be set in its row first and taken from there

abbrev pub text_unless : Option Refusal → Told → Told
text_unless None told = told
text_unless (Some refusal) told = Err (status_of refusal)

abbrev pub short_text : ℕ → Message → Told
short_text longest m = if nat_lt longest (length (message_text m)) then Err MessageTooLong else Ok (message_text m)

abbrev pub text_read : {T : Type 0} → Reading T → (T → Member → Told) → Member → Told
text_read (Ok value) told v = told value v
text_read (Err refusal) told v = Err (Plain (BadCommand refusal))

-- by a submit
abbrev pub batch_told : ℕ → ℕ → ℕ → List Command → Member → Told
batch_told longest caller serial commands v = text_unless (submit_refusal v.group (node_of v) caller serial (length commands)) (short_text longest (batch v caller serial commands))

abbrev pub command_told : ℕ → ℕ → Command → Member → Told
command_told caller serial asked v = batch_told longest_message caller serial (asked ∷ []) v

abbrev pub next_submit : ℕ → ℕ → List ℕ → Member → Told
next_submit caller serial text v = text_read (command text) (command_told caller serial) v

abbrev pub next_submit_batch : ℕ → ℕ → List ℕ → Member → Told
next_submit_batch caller serial text v = text_read (commands_read text) (batch_told longest_message caller serial) v

-- before a receipt: an acknowledgement, or no bytes where none is wanted
abbrev pub answer_text : Option Stamp → List ℕ
answer_text None = []
answer_text (Some s) = message_text (Ack s)

abbrev pub message_told : ℕ → ℕ → Message → Member → Told
message_told from number m v = text_unless (message_refusal v from number m) (Ok (answer_text (first_answer v m)))

abbrev pub next_answer : ℕ → ℕ → List ℕ → Member → Told
next_answer from number text v = text_read (message_read text) (message_told from number) v

-- ---- What it is asked by a text

abbrev pub review : List ℕ → Member → Told
review text v = text_read (command text) question_told v
