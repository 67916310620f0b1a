-- What each call on a holder tells and leaves, where memory is there. A holder has what a monitor keeps, or nothing.
use Rattle.std.specs.Prelude.{ℕ, ⊤, nat_le, if◌then◌else◌, Option, Some, None, List, ◌++◌, length, drop, Ok, Err}
use Rattle.rbac_embedded.specs.Kept.{Kept}
use Rattle.rbac_embedded.specs.Calls.{applied, founded, verdict}
use Rattle.rbac_dump.specs.DumpText.{dump_text, IsReadBack}
use Rattle.rbac_founding.specs.FoundingFile.{Reading as ReadingFile}
use Rattle.rbac_text.specs.Fields.{Reading}
use Rattle.rbac_embedded.specs.Subjects.{Told}
use Rattle.rbac_embedded.specs.declared.status.Status.{Status}
use Rattle.rbac_embedded.specs.declared.status.Status.TheVariants.{Done, EmptyPlace, FullPlace, ShortBuffer, Checked, BadFounding, BadCommand}

-- ---- Open

abbrev pub founded_status : ReadingFile Kept → Status
founded_status (Ok kept) = Done
founded_status (Err refusal) = BadFounding refusal

abbrev pub founded_kept : ReadingFile Kept → Option Kept
founded_kept (Ok kept) = Some kept
founded_kept (Err refusal) = None

-- what an open tells: a place that has a policy keeps it
abbrev pub open_status : List ℕ → Option Kept → Status
open_status file None = founded_status (founded file)
open_status file (Some kept) = FullPlace

-- what it leaves
abbrev pub opened : List ℕ → Option Kept → Option Kept
opened file None = founded_kept (founded file)
opened file (Some kept) = Some kept

-- ---- The text of an answer in a caller's buffer

-- a buffer with the text at its front, where it has room for all of it, and else as it was
abbrev pub with_text : List ℕ → List ℕ → List ℕ
with_text text buffer = if nat_le (length text) (length buffer) then text ++ drop (length text) buffer else buffer

abbrev pub room_status : List ℕ → List ℕ → Status
room_status text buffer = if nat_le (length text) (length buffer) then Done else ShortBuffer

-- ---- Apply

abbrev pub applied_status : Reading Kept → List ℕ → Status
applied_status (Ok kept) buffer = room_status kept.answer buffer
applied_status (Err refusal) buffer = BadCommand refusal

abbrev pub applied_kept : Reading Kept → Kept → Kept
applied_kept (Ok kept) before = kept
applied_kept (Err refusal) before = before

abbrev pub applied_buffer : Reading Kept → List ℕ → List ℕ
applied_buffer (Ok kept) buffer = with_text kept.answer buffer
applied_buffer (Err refusal) buffer = buffer

abbrev pub applied_length : Reading Kept → ℕ
applied_length (Ok kept) = length kept.answer
applied_length (Err refusal) = 0

-- what an apply tells: that the buffer is too short says nothing of the command, which was applied, once
abbrev pub apply_status : List ℕ → List ℕ → Option Kept → Status
apply_status text buffer None = EmptyPlace
apply_status text buffer (Some kept) = applied_status (applied text kept) buffer

-- what it leaves: the policy and its last answer, whatever the buffer; the buffer; and the length of the answer's text
abbrev pub apply_kept : List ℕ → Option Kept → Option Kept
apply_kept text None = None
apply_kept text (Some kept) = Some (applied_kept (applied text kept) kept)

abbrev pub apply_buffer : List ℕ → List ℕ → Option Kept → List ℕ
apply_buffer text buffer None = buffer
apply_buffer text buffer (Some kept) = applied_buffer (applied text kept) buffer

abbrev pub apply_length : List ℕ → Option Kept → ℕ
apply_length text None = 0
apply_length text (Some kept) = applied_length (applied text kept)

-- ---- The last answer again

abbrev pub answer_status : List ℕ → Option Kept → Status
answer_status buffer None = EmptyPlace
answer_status buffer (Some kept) = room_status kept.answer buffer

abbrev pub answer_buffer : List ℕ → Option Kept → List ℕ
answer_buffer buffer None = buffer
answer_buffer buffer (Some kept) = with_text kept.answer buffer

abbrev pub answer_length : Option Kept → ℕ
answer_length None = 0
answer_length (Some kept) = length kept.answer

-- ---- Check

abbrev pub check_status : List ℕ → List ℕ → List ℕ → Option Kept → Status
check_status session operation object None = EmptyPlace
check_status session operation object (Some kept) = Checked (verdict session operation object kept.state)

-- ---- Dump

abbrev pub dump_status : List ℕ → Option Kept → Status
dump_status buffer None = EmptyPlace
dump_status buffer (Some kept) = room_status (dump_text kept.state) buffer

abbrev pub dump_buffer : List ℕ → Option Kept → List ℕ
dump_buffer buffer None = buffer
dump_buffer buffer (Some kept) = with_text (dump_text kept.state) buffer

abbrev pub dump_length : Option Kept → ℕ
dump_length None = 0
dump_length (Some kept) = length (dump_text kept.state)

-- the lines of a dump are read as just its commands
abbrev pub IsDumpRead : Option Kept → Type 0
IsDumpRead None = ⊤
IsDumpRead (Some kept) = IsReadBack kept.state

-- ---- Subjects: a text that the policy tells, in a caller's buffer

abbrev pub asked : (Kept → Told) → Option Kept → Told
asked told None = Err EmptyPlace
asked told (Some kept) = told kept

abbrev pub told_status : Told → List ℕ → Status
told_status (Ok text) buffer = room_status text buffer
told_status (Err status) buffer = status

abbrev pub told_buffer : Told → List ℕ → List ℕ
told_buffer (Ok text) buffer = with_text text buffer
told_buffer (Err status) buffer = buffer

abbrev pub told_length : Told → ℕ
told_length (Ok text) = length text
told_length (Err status) = 0

-- ---- Close

abbrev pub close_status : Option Kept → Status
close_status None = EmptyPlace
close_status (Some kept) = Done
