-- What a step of one member tells and leaves, from bytes, where memory is there.
use Rattle.std.specs.Prelude.{ℕ, ◌+◌, nat_lt, if◌then◌else◌, List, [], ◌∷◌, length, Option, Some, None, Ok, Err}
use Rattle.rbac_terms.specs.declared.command.Command.{Command}
use Rattle.rbac_words.specs.World.{submit_refusal, acknowledgement}
use Rattle.rbac_words.specs.Keeping.Member.{Member, node_of, batch, submitted, received, message_refusal, deliver_due, due_at}
use Rattle.rbac_words.specs.Keeping.Own.{next_own, own_refusal, took_own}
use Rattle.rbac_words.specs.declared.event.Refusal.{Refusal}
use Rattle.rbac_words.specs.declared.event.Refusal.TheVariants.{UnknownMember, BadBatch, FromSelf, NotSent, Repeat, Gap, StampNotRising, ClockFull, SentFull, BadSerial, NoMemory as RefusedMemory}
use Rattle.rbac_words.specs.declared.message.Message.{Message}
use Rattle.rbac_words.specs.declared.message.Submission.{Submission}
use Rattle.rbac_words.specs.declared.stamp.Stamp.{Stamp}
use Rattle.rbac_text.specs.ReadCommand.{command}
use Rattle.rbac_text.specs.Fields.{Reading}
use Rattle.rbac_embedded.specs.declared.status.Status.TheVariants.{Done, NoMemory, BadCommand}
use Rattle.rbac_message_text.specs.MessageText.{longest_message, message_text}
use Rattle.rbac_message_text.specs.Message.{message_read, commands_read}
use Rattle.rbac_embedded_member.specs.declared.status.MemberStatus.{MemberStatus}
use Rattle.rbac_embedded_member.specs.declared.status.MemberStatus.TheVariants.{Plain, Refused, MessageTooLong}

-- what a step is answered with, the member after it, and the number that it tells: of the message that was sent or taken, or of
-- the record; or of the message or serial that is expected; or 0
pub record Step : Type 0 where
  pub status : MemberStatus
  pub member : Member
  pub told : ℕ

-- a refusal's own number
abbrev pub told_by : Refusal → ℕ
told_by UnknownMember = 0
told_by BadBatch = 0
told_by FromSelf = 0
told_by NotSent = 0
told_by (Repeat expected) = expected
told_by (Gap expected) = expected
told_by StampNotRising = 0
told_by ClockFull = 0
told_by SentFull = 0
told_by (BadSerial next) = next
told_by RefusedMemory = 0

abbrev pub status_of : Refusal → MemberStatus
status_of UnknownMember = Refused UnknownMember
status_of BadBatch = Refused BadBatch
status_of FromSelf = Refused FromSelf
status_of NotSent = Refused NotSent
status_of (Repeat expected) = Refused (Repeat expected)
status_of (Gap expected) = Refused (Gap expected)
status_of StampNotRising = Refused StampNotRising
status_of ClockFull = Refused ClockFull
status_of SentFull = Refused SentFull
status_of (BadSerial next) = Refused (BadSerial next)
status_of RefusedMemory = Plain NoMemory

abbrev pub done : Member → ℕ → Step
done after told = record { status = Plain Done; member = after; told = told }

-- a step that is refused leaves the member as it was
abbrev pub refused : MemberStatus → ℕ → Member → Step
refused status told v = record { status = status; member = v; told = told }

abbrev pub step_unless : Option Refusal → Step → Member → Step
step_unless None step v = step
step_unless (Some refusal) step v = refused (status_of refusal) (told_by refusal) v

-- a message is sent or taken only where its text has at most so many bytes
abbrev pub if_short : ℕ → Message → Step → Member → Step
if_short longest m step v = if nat_lt longest (length (message_text m)) then refused MessageTooLong 0 v else step

-- what was read of a text steps, or it is told why it was not read
abbrev pub if_read : {T : Type 0} → Reading T → (T → Member → Step) → Member → Step
if_read (Ok value) step v = step value v
if_read (Err refusal) step v = refused (Plain (BadCommand refusal)) 0 v

-- ---- Submit

-- commands are sent, and told by their message's number
abbrev pub batch_step : ℕ → ℕ → ℕ → List Command → Member → Step
batch_step longest caller serial commands v =
    step_unless (submit_refusal v.group (node_of v) caller serial (length commands))
    (if_short longest (batch v caller serial commands) (done (submitted v caller serial commands) (next_own v)) v) v

abbrev pub command_step : ℕ → ℕ → Command → Member → Step
command_step caller serial asked v = batch_step longest_message caller serial (asked ∷ []) v

abbrev pub submit_step : ℕ → ℕ → List ℕ → Member → Step
submit_step caller serial text v = if_read (command text) (command_step caller serial) v

abbrev pub submit_batch_step : ℕ → ℕ → List ℕ → Member → Step
submit_batch_step caller serial text v = if_read (commands_read text) (batch_step longest_message caller serial) v

-- ---- Take of its own row

abbrev pub own_step : ℕ → ℕ → Message → Member → Step
own_step longest number m v = if_short longest m (step_unless (own_refusal v number m) (done (took_own v m) (next_own v)) v) v

abbrev pub take_own_step : ℕ → List ℕ → Member → Step
take_own_step number text v = if_read (message_read text) (own_step longest_message number) v

-- ---- Receive

-- the number of the acknowledgement, where one is due
abbrev pub told_acknowledgement : Option Stamp → ℕ → ℕ
told_acknowledgement None next = 0
told_acknowledgement (Some s) next = next

abbrev pub message_step : ℕ → ℕ → Message → Member → Step
message_step from number m v = step_unless (message_refusal v from number m) (done (received v from m) (told_acknowledgement (acknowledgement (node_of v) m) (next_own v))) v

abbrev pub receive_step : ℕ → ℕ → List ℕ → Member → Step
receive_step from number text v = if_read (message_read text) (message_step from number) v

-- ---- Deliver

-- the number of the record, counted from 1
abbrev pub told_record : Option Submission → ℕ → ℕ
told_record None next = 0
told_record (Some x) next = next

abbrev pub deliver_step : Member → Step
deliver_step v = done (deliver_due v (due_at v)) (told_record (due_at v) (length v.history + 1))
