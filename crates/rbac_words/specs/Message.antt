-- Messages, the commands in them, and the lists of messages that a member may send (Lamport 1978).
use Rattle.std.specs.Prelude.{ℕ, Bool, true, false, suc, ◌≡◌, ◌≤◌, ◌==◌, ◌+◌, ◌-◌, ◌||◌, nat_lt, ⊤, List, [], ◌∷◌, length, map}
use Rattle.std.specs.List.{AllByRecursion, flat_map, filter, list_any}
use Rattle.rbac_words.specs.Limits.{last_clock, last_serial, most_commands}
use Rattle.rbac_words.specs.Group.{Group}
use Rattle.rbac_words.specs.Stamp.{IsRising, is_before}
use Rattle.rbac_terms.specs.declared.command.Command.{Command}
use Rattle.rbac_words.specs.declared.stamp.Stamp.{Stamp}
use Rattle.rbac_words.specs.declared.message.Message.{Message}
use Rattle.rbac_words.specs.declared.message.Message.TheVariants.{Batch, Ack}
use Rattle.rbac_words.specs.declared.message.Submission.{Submission}
use Rattle.rbac_words.specs.declared.record.Record.{Record}

-- when a message was sent: its first command has the same stamp
abbrev pub stamp_of : Message → Stamp
stamp_of (Batch stamp caller serial commands) = stamp
stamp_of (Ack stamp) = stamp

-- whether one of these messages was sent with a greater stamp
abbrev pub has_later : List Message → Stamp → Bool
has_later messages s = list_any (λ m. is_before s (stamp_of m)) messages

-- when a command was submitted
abbrev pub submitted_at : Submission → Stamp
submitted_at x = x.stamp

-- the stamp of the next command of the same message
abbrev pub next_place : Stamp → Stamp
next_place s = record { clock = s.clock; member = s.member; place = suc s.place }

-- commands of a caller that were submitted together: they follow one another in places and in serials
abbrev pub in_turn : Stamp → ℕ → ℕ → List Command → List Submission
in_turn s caller serial [] = []
in_turn s caller serial (c ∷ cs) = record { stamp = s; caller = caller; serial = serial; command = c } ∷ in_turn (next_place s) caller (suc serial) cs

-- the commands of a message
abbrev pub submissions_of : Message → List Submission
submissions_of (Batch stamp caller serial commands) = in_turn stamp caller serial commands
submissions_of (Ack stamp) = []

-- whether so many commands, the first of them with this serial, are no batch: there is none, there are too many, or the last
-- serial is too large
abbrev pub is_bad_batch : ℕ → ℕ → Bool
is_bad_batch serial count = count == 0 || (nat_lt most_commands count || nat_lt last_serial (serial + count - 1))

-- whether a message has commands that are no batch
abbrev pub has_bad_batch : Message → Bool
has_bad_batch (Batch stamp caller serial commands) = is_bad_batch serial (length commands)
has_bad_batch (Ack stamp) = false

-- whether a message has commands
abbrev pub has_commands : Message → Bool
has_commands m = list_any (λ (x : Submission). true) (submissions_of m)

-- the commands of a list of messages
abbrev pub submissions : List Message → List Submission
submissions messages = flat_map submissions_of messages

-- whether a command is of this caller
abbrev pub is_by : ℕ → Submission → Bool
is_by caller x = x.caller == caller

-- the number of a caller's commands: its next serial
abbrev pub next_serial : ℕ → List Submission → ℕ
next_serial caller xs = length (filter (is_by caller) xs)

-- the serials are n, n + 1, n + 2 and so on
abbrev pub CountsFrom : ℕ → List Submission → Type 0
CountsFrom n [] = ⊤
CountsFrom n (x ∷ xs) = (x.serial ≡ n) × CountsFrom (suc n) xs

-- each caller's serials are 0, 1, 2 and so on
abbrev pub AreSerialsInOrder : List Submission → Type 0
AreSerialsInOrder xs = (caller : ℕ) → CountsFrom 0 (filter (is_by caller) xs)

-- a sent list of a member: its own stamps, which rise, within the limits, batches of commands, and each caller's commands in order
pub record IsLawful (member : ℕ) (group : Group) (sent : List Message) : Type 0 where
  pub own : AllByRecursion (λ m. (stamp_of m).member ≡ member) sent
  pub first : AllByRecursion (λ m. (stamp_of m).place ≡ 0) sent
  pub rising : IsRising stamp_of sent
  pub clocks_in_range : AllByRecursion (λ m. (stamp_of m).clock ≤ last_clock) sent
  pub within_limit : length sent ≤ group.sent_limit
  pub batches : AllByRecursion (λ m. has_bad_batch m ≡ false) sent
  pub serials : AreSerialsInOrder (submissions sent)

-- a record's command as it was submitted
abbrev pub submission_of : Record → Submission
submission_of r = record { stamp = r.stamp; caller = r.caller; serial = r.serial; command = r.command }

-- the commands of a history
abbrev pub commands_of : List Record → List Submission
commands_of history = map submission_of history
