-- A member of a group: what it knows, what its calls leave of it, and what it keeps (Lamport 1978, "Ordering the Events
-- Totally": its request queue and the last message of each other process).
use Rattle.std.specs.Prelude.{ℕ, zero, suc, Bool, true, false, ◌≡◌, ◌≢◌, ◌≤◌, ◌<◌, ◌+◌, ◌-◌, ◌==◌, ◌||◌, ⊤, if◌then◌else◌, List, [], ◌∷◌, ◌++◌, length, map, drop, replicate, Option, Some, None, slice_set, slice_index_or}
use Rattle.std.specs.List.{AllByRecursion, filter, list_all}
use Rattle.rbac_words.specs.Limits.{last_clock}
use Rattle.rbac_terms.specs.Vocabulary.{Vocabulary}
use Rattle.rbac_words.specs.Group.{Group, IsGroup}
use Rattle.rbac_terms.specs.State.{State, founding_state}
use Rattle.rbac_terms.specs.Effect.{effect, reply}
use Rattle.rbac_terms.specs.Replay.{state_after}
use Rattle.rbac_words.specs.Stamp.{IsBefore, IsRising, IsAfter, has_passed, insert_all}
use Rattle.rbac_words.specs.Message.{stamp_of, submitted_at, submissions_of, has_bad_batch, submissions, commands_of, has_later, is_by, next_serial, CountsFrom, IsLawful}
use Rattle.rbac_words.specs.Front.{IsLegalFront, command_of, is_of}
use Rattle.rbac_words.specs.Keeping.Links.{Links, link_refusal}
use Rattle.rbac_words.specs.World.{Node, stamp, read_of, least, clock_after, acknowledgement, acks, room_refusal}
use Rattle.rbac_terms.specs.declared.command.Command.{Command}
use Rattle.rbac_words.specs.declared.message.Message.{Message}
use Rattle.rbac_words.specs.declared.message.Message.TheVariants.{Batch, Ack}
use Rattle.rbac_words.specs.declared.message.Submission.{Submission}
use Rattle.rbac_words.specs.declared.event.Refusal.{Refusal}
use Rattle.rbac_words.specs.declared.event.Refusal.TheVariants.{BadBatch, BadSerial}
use Rattle.rbac_words.specs.declared.record.Record.{Record}
use Rattle.rbac_words.specs.declared.stamp.Stamp.{Stamp}

-- the group and the vocabulary that it was founded with, its number, its clock, what it sent, how many messages it read of
-- each member and the stamp of the last one, the commands that it holds in stamp order, what it delivered, and its policy
pub record Member : Type 0 where
  pub group : Group
  pub vocabulary : Vocabulary
  pub number : ℕ
  pub clock : ℕ
  pub sent : List Message
  pub read : List ℕ
  pub latest : List (Option Stamp)
  pub held : List Submission
  pub history : List Record
  pub policy : State

-- a member as a world shows it
abbrev pub node_of : Member → Node
node_of v = record { number = v.number; clock = v.clock; sent = v.sent; read = v.read; history = v.history }

abbrev pub founded : Group → ℕ → Vocabulary → Member
founded group number vocabulary = record {
  group = group;
  vocabulary = vocabulary;
  number = number;
  clock = group.clock;
  sent = [];
  read = replicate group.members 0;
  latest = replicate group.members None;
  held = [];
  history = [];
  policy = founding_state vocabulary;
}

-- the stamp of the last message that was read of member k
abbrev pub latest_of : Member → ℕ → Option Stamp
latest_of v k = slice_index_or v.latest (k - 1) None

-- the commands that a member knows: those that it delivered, and then those that it holds
abbrev pub known : Member → List Submission
known v = commands_of v.history ++ v.held

-- ---- Submit

-- commands as they are sent next
abbrev pub batch : Member → ℕ → ℕ → List Command → Message
batch v caller serial commands = Batch (stamp (v.clock + 1) v.number) caller serial commands

-- a command as it is submitted next, alone in its message
abbrev pub submission : Member → ℕ → ℕ → Command → Submission
submission v caller serial command = record { stamp = stamp (v.clock + 1) v.number; caller = caller; serial = serial; command = command }

-- the clock rises by one, and the commands are sent with that stamp and held; their stamps are above all that is held
abbrev pub submitted : Member → ℕ → ℕ → List Command → Member
submitted v caller serial commands = record v {
  clock = v.clock + 1;
  sent = v.sent ++ batch v caller serial commands ∷ [];
  held = v.held ++ submissions_of (batch v caller serial commands);
}

-- ---- Receive

-- what a member's links keep
abbrev pub links_of : Member → Links
links_of v = record { me = v.number; read = v.read; latest = v.latest }

-- commands are refused that are no batch
abbrev pub batch_refusal : Message → Option Refusal
batch_refusal m = if has_bad_batch m then Some BadBatch else None

-- and where the first one's serial is not the number of its caller's commands that the member knows
abbrev pub serial_refusal : Member → Message → Option Refusal
serial_refusal v (Batch s caller serial commands) =
    if serial == next_serial caller (filter (is_of s.member) (known v)) then None
    else Some (BadSerial (next_serial caller (filter (is_of s.member) (known v))))
serial_refusal v (Ack s) = None

abbrev pub or_else : Option Refusal → Option Refusal → Option Refusal
or_else None other = other
or_else (Some r) other = Some r

-- why a message is not received: the first that applies of what the link, the batch, the clock and the sent list, and the
-- serial refuse
abbrev pub message_refusal : Member → ℕ → ℕ → Message → Option Refusal
message_refusal v from n m =
    or_else (link_refusal (links_of v) from n (stamp_of m)) (or_else (batch_refusal m) (or_else (room_refusal v.group (node_of v) m) (serial_refusal v m)))

-- one more message was read of member k, with this stamp; its commands are held, and it is acknowledged by the rule
abbrev pub received : Member → ℕ → Message → Member
received v k m = record v {
  clock = clock_after (node_of v) m;
  sent = v.sent ++ acks (acknowledgement (node_of v) m);
  read = slice_set v.read (k - 1) (read_of (node_of v) k + 1);
  latest = slice_set v.latest (k - 1) (Some (stamp_of m));
  held = insert_all submitted_at (submissions_of m) v.held;
}

-- ---- Deliver

-- the numbers n + 1, n + 2 and so on
abbrev pub numbers : ℕ → ℕ → List ℕ
numbers zero n = []
numbers (suc more) n = suc n ∷ numbers more (suc n)

-- whether, by the latest stamps, each member other than `me` and the command's has passed the command: no command that comes
-- later can have a smaller stamp
abbrev pub is_passed : ℕ → ℕ → List (Option Stamp) → Submission → Bool
is_passed members me latest x = list_all (λ k. (k == me || k == x.stamp.member) || has_passed (slice_index_or latest (k - 1) None) x.stamp) (numbers members 0)

abbrev pub is_passed_by_all : Member → Submission → Bool
is_passed_by_all v x = is_passed v.group.members v.number v.latest x

-- whether the least of what is held is passed so; false where nothing is held
abbrev pub is_least_passed : ℕ → ℕ → List (Option Stamp) → List Submission → Bool
is_least_passed members me latest [] = false
is_least_passed members me latest (x ∷ xs) = is_passed members me latest x

abbrev pub if_passed : Member → Option Submission → Option Submission
if_passed v None = None
if_passed v (Some x) = if is_passed_by_all v x then Some x else None

-- the command that a member delivers next, if one is due: the least that it holds, where that is passed by all
abbrev pub due_at : Member → Option Submission
due_at v = if_passed v (least v.held)

-- the record of a command that is delivered
abbrev pub delivery : Member → Submission → Record
delivery v x = record { stamp = x.stamp; caller = x.caller; serial = x.serial; command = x.command; answer = reply x.command v.policy }

-- the least held command leaves what is held, its record joins the history, and the policy becomes its effect
abbrev pub delivered : Member → Submission → Member
delivered v x = record v {
  held = drop 1 v.held;
  history = v.history ++ delivery v x ∷ [];
  policy = effect x.command v.policy;
}

abbrev pub deliver_due : Member → Option Submission → Member
deliver_due v None = v
deliver_due v (Some x) = delivered v x

-- ---- What each member keeps

-- the number of a member of the group
pub record IsNumber (group : Group) (k : ℕ) : Type 0 where
  pub low : 1 ≤ k
  pub high : k ≤ group.members

-- each message of member k after the last one that was read has a stamp above this one
abbrev pub IsCovered : Option Stamp → ℕ → Stamp → Type 0
IsCovered last k s = (t : Stamp) → t.member ≡ k → t.place ≡ 0 → IsAfter last t → IsBefore s t

-- a clock above that of the last message that was read
abbrev pub IsClockAbove : Option Stamp → ℕ → Type 0
IsClockAbove None clock = ⊤
IsClockAbove (Some last) clock = last.clock < clock

pub record IsMember (v : Member) : Type 0 where
  pub group : IsGroup v.group
  -- its number is one of the group's, and it has a place for each member
  pub low : 1 ≤ v.number
  pub high : v.number ≤ v.group.members
  pub reads : length v.read ≡ v.group.members
  pub latests : length v.latest ≡ v.group.members
  -- its sent list is lawful, and its history a legal front
  pub lawful : IsLawful v.number v.group v.sent
  pub front : IsLegalFront (founding_state v.vocabulary) v.history
  -- its policy is the replay of its history
  pub policy : v.policy ≡ state_after (founding_state v.vocabulary) (map command_of (commands_of v.history))
  -- its own commands are delivered or held, each once, and the others are of the group
  pub own : filter (is_of v.number) (known v) ≡ submissions v.sent
  pub others : AllByRecursion (λ (x : Submission). IsNumber v.group x.stamp.member) (known v)
  -- what is held lies above all that is delivered
  pub rising : IsRising submitted_at (known v)
  -- each caller of each member has its serials in order
  pub serials : (member caller : ℕ) → CountsFrom 0 (filter (is_by caller) (filter (is_of member) (known v)))
  -- each other member has passed each delivered command that is not its own
  pub passed :
      (k : ℕ) → IsNumber v.group k → k ≢ v.number →
      AllByRecursion (λ (x : Submission). x.stamp.member ≢ k → has_passed (latest_of v k) x.stamp ≡ true) (commands_of v.history)
  -- each later message of a command's sender has a greater stamp
  pub covered :
      AllByRecursion (λ (x : Submission). x.stamp.member ≢ v.number → IsCovered (latest_of v x.stamp.member) x.stamp.member x.stamp) (known v)
  -- its clock is at least that of each stamp, above that of each message that it read, and within its limit
  pub clock_of_sent : AllByRecursion (λ m. (stamp_of m).clock ≤ v.clock) v.sent
  pub clock_of_known : AllByRecursion (λ (x : Submission). x.stamp.clock ≤ v.clock) (known v)
  pub clock_of_others : AllByRecursion (λ (x : Submission). x.stamp.member ≢ v.number → x.stamp.clock < v.clock) (known v)
  pub clock_of_latest : (k : ℕ) → IsNumber v.group k → IsClockAbove (latest_of v k) v.clock
  pub clock_in_range : v.clock ≤ last_clock
  -- after each command of another member it sent something with a greater stamp
  pub acknowledged : AllByRecursion (λ (x : Submission). x.stamp.member ≢ v.number → has_later v.sent x.stamp ≡ true) (known v)

-- this is the next message of member k: it is that member's, it has a message's stamp, after the latest one, and its commands
-- are a batch, with the next serials of their caller
pub record IsNext (v : Member) (k : ℕ) (m : Message) : Type 0 where
  pub number : IsNumber v.group k
  pub other : k ≢ v.number
  pub sender : (stamp_of m).member ≡ k
  pub first : (stamp_of m).place ≡ 0
  pub after : IsAfter (latest_of v k) (stamp_of m)
  pub batch : has_bad_batch m ≡ false
  pub serials : (caller : ℕ) → CountsFrom 0 (filter (is_by caller) (filter (is_of k) (known v) ++ submissions_of m))
