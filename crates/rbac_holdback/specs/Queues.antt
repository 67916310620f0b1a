-- One queue for each member, with its commands in the order of their stamps.
use Rattle.std.specs.Prelude.{ℕ, suc, ◌≡◌, ◌≤◌, ◌-◌, ⊤, if◌then◌else◌, List, [], ◌∷◌, ◌++◌, Option, Some, None, length, map, replicate, slice_set, slice_index_or}
use Rattle.std.specs.List.{AllByRecursion, flat_map}
use Rattle.std.specs.VecDeque.{deque_len, deque_capacity}
use Rattle.std.specs.declared.alloc.Global.{Global}
use Rattle.std.specs.declared.collections.VecDeque.{VecDeque}
use Rattle.rbac_words.specs.Message.{submitted_at}
use Rattle.rbac_words.specs.Stamp.{is_before, IsRising, sort_by_stamp}
use Rattle.rbac_words.specs.declared.message.Submission.{Submission}

-- what each queue holds, in turn
abbrev pub lists_of : List (VecDeque Submission Global) → List (List Submission)
lists_of queues = map (λ queue. queue.items) queues

-- the commands of all queues, in the order of their stamps
abbrev pub held_in : List (List Submission) → List Submission
held_in queues = sort_by_stamp submitted_at (flat_map (λ queue. queue) queues)

-- a queue of this member: its own commands, whose stamps rise
pub record IsQueue (member : ℕ) (queue : List Submission) : Type 0 where
  pub own : AllByRecursion (λ (x : Submission). x.stamp.member ≡ member) queue
  pub rising : IsRising submitted_at queue

-- the queues of the members that follow this one, in turn
abbrev pub AreQueues : ℕ → List (List Submission) → Type 0
AreQueues member [] = ⊤
AreQueues member (queue ∷ queues) = IsQueue (suc member) queue × AreQueues (suc member) queues

-- the queues of the members from the first one on, no more than there are members, and the count of what they hold
pub record AreKept (members count : ℕ) (queues : List (List Submission)) : Type 0 where
  pub of_each : AreQueues 0 queues
  pub within : length queues ≤ members
  pub counted : count ≡ length (held_in queues)

-- the queues with one more command, last in the queue of its member
abbrev pub longer : Submission → List (List Submission) → List (List Submission)
longer x queues = slice_set queues (x.stamp.member - 1) (slice_index_or queues (x.stamp.member - 1) [] ++ x ∷ [])

-- the queues with some commands more, one after the other
abbrev pub longer_by : List Submission → List (List Submission) → List (List Submission)
longer_by [] queues = queues
longer_by (x ∷ xs) queues = longer_by xs (longer x queues)

-- how many commands a queue has room for without new memory
abbrev pub room_of : VecDeque Submission Global → ℕ
room_of queue = deque_capacity queue - deque_len queue

abbrev pub rooms_of : List (VecDeque Submission Global) → List ℕ
rooms_of queues = map room_of queues

-- of these rooms that of a member; none where no queue of it is made
abbrev pub room_at : ℕ → List ℕ → ℕ
room_at member rooms = slice_index_or rooms (member - 1) 0

-- the queue of each of these commands' members has room for so many
abbrev pub HaveRoom : ℕ → List ℕ → List Submission → Type 0
HaveRoom count rooms xs = AllByRecursion (λ (x : Submission). count ≤ room_at x.stamp.member rooms) xs

-- the same queues, and then empty ones
pub record IsWidened (old new : List (List Submission)) : Type 0 where
  pub more : ℕ
  pub widened : new ≡ old ++ replicate more []

-- of two commands the one with the smaller stamp
abbrev pub lesser : Option Submission → Option Submission → Option Submission
lesser None other = other
lesser (Some x) None = Some x
lesser (Some x) (Some y) = if is_before x.stamp y.stamp then Some x else Some y
