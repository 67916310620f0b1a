-- What each call on a holder of one member tells and leaves, where memory is there. A holder has a member, which acts or only
-- observes, or nothing.
use Rattle.std.specs.Prelude.{ℕ, ⊤, Bool, ◌+◌, ◌==◌, not, nat_le, ◌&&◌, ◌||◌, if◌then◌else◌, Option, Some, None, List, length, Result, Ok, Err}
use Rattle.rbac_words.specs.Stamp.{has_passed}
use Rattle.rbac_words.specs.World.{least}
use Rattle.rbac_words.specs.Keeping.Member.{Member, founded, latest_of}
use Rattle.rbac_words.specs.declared.event.Refusal.TheVariants.{UnknownMember}
use Rattle.rbac_words.specs.declared.message.Submission.{Submission}
use Rattle.rbac_words.specs.declared.stamp.Stamp.{Stamp}
use Rattle.rbac_founding.specs.FoundingFile.{founding_of, Reading as ReadingFile}
use Rattle.rbac_founding.specs.declared.founding.Founding.{Founding}
use Rattle.rbac_embedded.specs.Calls.{verdict}
use Rattle.rbac_embedded.specs.Holding.{with_text, room_status}
use Rattle.rbac_embedded.specs.declared.status.Status.TheVariants.{Done, EmptyPlace, FullPlace, Checked, BadFounding}
use Rattle.rbac_embedded_member.specs.Observing.{kept_after}
use Rattle.rbac_embedded_member.specs.Step.{Step}
use Rattle.rbac_embedded_member.specs.Texts.{Told, item_at, ReadsBackAs}
use Rattle.rbac_embedded_member.specs.Place.{KeptMember}
use Rattle.rbac_embedded_member.specs.declared.status.MemberStatus.{MemberStatus}
use Rattle.rbac_embedded_member.specs.declared.status.MemberStatus.TheVariants.{Plain, Refused}
use Rattle.rbac_embedded_member.specs.declared.waiting.Waiting.{Waiting}

-- ---- Open: the member of this number of the group of a founding file

abbrev pub founded_status : ReadingFile Founding → ℕ → MemberStatus
founded_status (Ok f) number = if nat_le 1 number && nat_le number f.group.members then Plain Done else Refused UnknownMember
founded_status (Err refusal) number = Plain (BadFounding refusal)

abbrev pub founded_as : Bool → ReadingFile Founding → ℕ → Option KeptMember
founded_as observes (Ok f) number = if nat_le 1 number && nat_le number f.group.members then Some (record { member = founded f.group number f.vocabulary; observes = observes }) else None
founded_as observes (Err refusal) number = None

abbrev pub open_status : List ℕ → ℕ → Option KeptMember → MemberStatus
open_status file number None = founded_status (founding_of file) number
open_status file number (Some k) = Plain FullPlace

-- as one that acts, or as one that only observes
abbrev pub opened_as : Bool → List ℕ → ℕ → Option KeptMember → Option KeptMember
opened_as observes file number None = founded_as observes (founding_of file) number
opened_as observes file number (Some k) = Some k

-- ---- A step of the member, where there is one

abbrev pub step_status : (KeptMember → Step) → Option KeptMember → MemberStatus
step_status step None = Plain EmptyPlace
step_status step (Some k) = (step k).status

abbrev pub step_kept : (KeptMember → Step) → Option KeptMember → Option KeptMember
step_kept step None = None
step_kept step (Some k) = Some (kept_after step k)

abbrev pub step_told : (KeptMember → Step) → Option KeptMember → ℕ
step_told step None = 0
step_told step (Some k) = (step k).told

-- ---- A text that the member tells, in a caller's buffer

abbrev pub asked : (KeptMember → Told) → Option KeptMember → Told
asked text None = Err (Plain EmptyPlace)
asked text (Some k) = text k

-- the text of that message, where it is not too long, reads as it
abbrev pub ReadsBack : ℕ → Option KeptMember → Type 0
ReadsBack number None = ⊤
ReadsBack number (Some k) = ReadsBackAs (item_at k.member.sent number)

abbrev pub text_status : Told → List ℕ → MemberStatus
text_status (Ok text) buffer = Plain (room_status text buffer)
text_status (Err status) buffer = status

abbrev pub text_buffer : Told → List ℕ → List ℕ
text_buffer (Ok text) buffer = with_text text buffer
text_buffer (Err status) buffer = buffer

abbrev pub text_length : Told → ℕ
text_length (Ok text) = length text
text_length (Err status) = 0

-- ---- A number that the member tells

abbrev pub number_status : Option KeptMember → MemberStatus
number_status None = Plain EmptyPlace
number_status (Some k) = Plain Done

abbrev pub number_told : (Member → ℕ) → Option KeptMember → ℕ
number_told number None = 0
number_told number (Some k) = number k.member

-- ---- What it waits for

-- whether a command of this stamp waits for member k: one of the group, neither this one nor the command's own, of which no message
-- with a greater stamp was taken
abbrev pub is_awaited : Member → Stamp → ℕ → Bool
is_awaited v s k = nat_le k v.group.members && not ((k == v.number || k == s.member) || has_passed (latest_of v k) s)

abbrev pub bit_of : Member → Stamp → ℕ → ℕ → ℕ
bit_of v s k bit = if is_awaited v s k then bit else 0

-- a bit for each member, from 1 for member 1 to 128 for member 8
abbrev pub awaited_bits : Member → Stamp → ℕ
awaited_bits v s = bit_of v s 1 1 + bit_of v s 2 2 + bit_of v s 3 4 + bit_of v s 4 8 + bit_of v s 5 16 + bit_of v s 6 32 + bit_of v s 7 64 + bit_of v s 8 128

abbrev pub if_held : Member → Option Submission → Option Waiting
if_held v None = None
if_held v (Some x) = Some (record { stamp = x.stamp; awaited = awaited_bits v x.stamp })

abbrev pub waits_of : Option KeptMember → Result (Option Waiting) MemberStatus
waits_of None = Err (Plain EmptyPlace)
waits_of (Some k) = Ok (if_held k.member (least k.member.held))

-- ---- Check: by the policy that its history left

abbrev pub check_status : List ℕ → List ℕ → List ℕ → Option KeptMember → MemberStatus
check_status session operation object None = Plain EmptyPlace
check_status session operation object (Some k) = Plain (Checked (verdict session operation object k.member.policy))
