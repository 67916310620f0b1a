-- What a member's links take of the other members: of each one exactly the next message, with a rising stamp (Lamport 1978,
-- "Ordering the Events Totally", assumes that messages are received in the order in which they were sent; the numbers are
-- this project's own).
use Rattle.std.specs.Prelude.{ℕ, Bool, not, ◌==◌, ◌-◌, ◌+◌, ◌&&◌, nat_lt, nat_le, if◌then◌else◌, List, Option, Some, None, length, replicate, slice_set, slice_index, slice_index_or}
use Rattle.rbac_words.specs.Stamp.{is_after}
use Rattle.rbac_words.specs.declared.stamp.Stamp.{Stamp}
use Rattle.rbac_words.specs.declared.event.Refusal.{Refusal}
use Rattle.rbac_words.specs.declared.event.Refusal.TheVariants.{UnknownMember, FromSelf, Repeat, Gap, StampNotRising}

-- the number of the member whose links they are, and of each member of the group, in order of number, how many messages were
-- taken and the stamp of the last one
pub record Links : Type 0 where
  pub me : ℕ
  pub read : List ℕ
  pub latest : List (Option Stamp)

abbrev pub founded_links : ℕ → ℕ → Links
founded_links me members = record { me = me; read = replicate members 0; latest = replicate members None }

abbrev pub has_link : Links → ℕ → Bool
has_link l k = nat_le 1 k && nat_le k (length l.read)

-- the number of the message that is taken next of member k; they are counted from 1
abbrev pub next_of : Links → ℕ → ℕ
next_of l k = slice_index l.read (k - 1) + 1

-- whether a stamp is one of a message of member k, and comes after the last one that was taken of it
abbrev pub is_rising_of : Links → ℕ → Stamp → Bool
is_rising_of l k s = s.member == k && (s.place == 0 && is_after (slice_index_or l.latest (k - 1) None) s)

-- why the message of this number and stamp is not taken from a member: the first that applies
abbrev pub link_refusal : Links → ℕ → ℕ → Stamp → Option Refusal
link_refusal l from n s =
    if not (has_link l from) then Some UnknownMember
    else (if from == l.me then Some FromSelf
    else (if nat_lt n (next_of l from) then Some (Repeat (next_of l from))
    else (if nat_lt (next_of l from) n then Some (Gap (next_of l from))
    else (if is_rising_of l from s then None else Some StampNotRising))))

-- the next message of member k was taken, with this stamp
abbrev pub taken_from : Links → ℕ → Stamp → Links
taken_from l k s = record l { read = slice_set l.read (k - 1) (next_of l k); latest = slice_set l.latest (k - 1) (Some s) }
