-- A world of members, and the step that an event is (Lamport 1978, "Ordering the Events Totally"; the numbers on the
-- links, the limits and the refusals are this project's own).
use Rattle.std.specs.Prelude.{ℕ, Bool, not, ◌==◌, ◌-◌, ◌+◌, ◌&&◌, ◌||◌, max, nat_lt, nat_le, if◌then◌else◌, List, [], ◌∷◌, ◌++◌, Option, Some, None, Result, Ok, Err, length, map, take, slice_set, slice_index, slice_index_or}
use Rattle.std.specs.List.{flat_map, filter, list_any, list_all}
use Rattle.rbac_words.specs.Limits.{last_clock}
use Rattle.rbac_terms.specs.Vocabulary.{Vocabulary}
use Rattle.rbac_words.specs.Group.{Group}
use Rattle.rbac_terms.specs.State.{founding_state}
use Rattle.rbac_terms.specs.Effect.{reply}
use Rattle.rbac_terms.specs.Replay.{state_after}
use Rattle.rbac_words.specs.Stamp.{is_same_stamp, sort_by_stamp}
use Rattle.rbac_words.specs.Message.{stamp_of, has_later, submitted_at, has_commands, is_bad_batch, submissions, next_serial, commands_of}
use Rattle.rbac_words.specs.Front.{command_of}
use Rattle.rbac_terms.specs.declared.command.Command.{Command}
use Rattle.rbac_words.specs.declared.stamp.Stamp.{Stamp}
use Rattle.rbac_words.specs.declared.message.Message.{Message}
use Rattle.rbac_words.specs.declared.message.Message.TheVariants.{Batch, Ack}
use Rattle.rbac_words.specs.declared.message.Submission.{Submission}
use Rattle.rbac_words.specs.declared.record.Record.{Record}
use Rattle.rbac_words.specs.declared.event.Event.{Event}
use Rattle.rbac_words.specs.declared.event.Event.TheVariants.{Submit, SubmitBatch, Receive, Deliver}
use Rattle.rbac_words.specs.declared.event.Outcome.{Outcome}
use Rattle.rbac_words.specs.declared.event.Outcome.TheVariants.{Submitted, Received, Delivered}
use Rattle.rbac_words.specs.declared.event.Refusal.{Refusal}
use Rattle.rbac_words.specs.declared.event.Refusal.TheVariants.{UnknownMember, BadBatch, FromSelf, NotSent, Repeat, Gap, ClockFull, SentFull, BadSerial}

-- a member as a world shows it: its number, its clock, what it sent, how many messages it read of each member, and what
-- it delivered
pub record Node : Type 0 where
  pub number : ℕ
  pub clock : ℕ
  pub sent : List Message
  pub read : List ℕ
  pub history : List Record

-- what was founded, and the members in order of number
pub record World : Type 0 where
  pub group : Group
  pub vocabulary : Vocabulary
  pub nodes : List Node

-- ---- What a member has heard

abbrev pub nobody : Node
nobody = record { number = 0; clock = 0; sent = []; read = []; history = [] }

-- the member of this number
abbrev pub node : World → ℕ → Node
node w k = slice_index_or w.nodes (k - 1) nobody

abbrev pub is_member : World → ℕ → Bool
is_member w k = nat_le 1 k && nat_le k (length w.nodes)

-- how many messages a node has read of member k
abbrev pub read_of : Node → ℕ → ℕ
read_of v k = slice_index v.read (k - 1)

-- what a node has heard of another: all that it sent itself, and what it read of the others
abbrev pub heard_of : Node → Node → List Message
heard_of v other = if other.number == v.number then other.sent else take (read_of v other.number) other.sent

-- the commands that a node has heard, in stamp order
abbrev pub heard_commands : World → Node → List Submission
heard_commands w v = sort_by_stamp submitted_at (flat_map (λ other. submissions (heard_of v other)) w.nodes)

-- whether a command is in a history
abbrev pub is_delivered : List Record → Submission → Bool
is_delivered history x = list_any (λ r. is_same_stamp r.stamp x.stamp) history

-- of each member other than this one and the command's, a message with a greater stamp was heard: no command that
-- comes later can have a smaller stamp
abbrev pub is_stable : World → Node → Submission → Bool
is_stable w v x =
    list_all (λ other. (other.number == v.number || other.number == x.stamp.member) || has_later (heard_of v other) x.stamp) w.nodes

-- the least command that a node has heard and has not delivered
abbrev pub least : List Submission → Option Submission
least [] = None
least (x ∷ xs) = Some x

abbrev pub if_stable : World → Node → Option Submission → Option Submission
if_stable w v None = None
if_stable w v (Some x) = if is_stable w v x then Some x else None

-- the command that a node delivers next, if one is due
abbrev pub due : World → Node → Option Submission
due w v = if_stable w v (least (filter (λ x. not (is_delivered v.history x)) (heard_commands w v)))

-- ---- What a step leaves of one member

-- the stamp of a message
abbrev pub stamp : ℕ → ℕ → Stamp
stamp clock member = record { clock = clock; member = member; place = 0 }

-- the clock rises by one, and the commands are sent with that stamp
abbrev pub submit_at : Node → ℕ → ℕ → List Command → Node
submit_at v caller serial commands = record v { clock = v.clock + 1; sent = v.sent ++ Batch (stamp (v.clock + 1) v.number) caller serial commands ∷ [] }

-- the rule of acknowledgements: a message is acknowledged where it has commands and nothing was sent with a greater stamp
abbrev pub must_acknowledge : Node → Message → Bool
must_acknowledge v m = has_commands m && not (has_later v.sent (stamp_of m))

-- the clock moves above that of the message, and once more for an acknowledgement
abbrev pub clock_after : Node → Message → ℕ
clock_after v m = if must_acknowledge v m then (max v.clock (stamp_of m).clock + 1) + 1 else max v.clock (stamp_of m).clock + 1

-- the stamp of what is sent upon a message, if it is acknowledged
abbrev pub acknowledgement : Node → Message → Option Stamp
acknowledgement v m = if must_acknowledge v m then Some (stamp (clock_after v m) v.number) else None

abbrev pub acks : Option Stamp → List Message
acks None = []
acks (Some s) = Ack s ∷ []

abbrev pub receive_at : Node → ℕ → Message → Node
receive_at v from m =
    record v {
      clock = clock_after v m;
      read = slice_set v.read (from - 1) (read_of v from + 1);
      sent = v.sent ++ acks (acknowledgement v m);
    }

-- the record of a command that is delivered next
abbrev pub record_of : Vocabulary → Node → Submission → Record
record_of vocabulary v x =
    record {
      stamp = x.stamp;
      caller = x.caller;
      serial = x.serial;
      command = x.command;
      answer = reply x.command (state_after (founding_state vocabulary) (map command_of (commands_of v.history)));
    }

abbrev pub deliver_at : Vocabulary → Node → Option Submission → Node
deliver_at vocabulary v None = v
deliver_at vocabulary v (Some x) = record v { history = v.history ++ record_of vocabulary v x ∷ [] }

-- ---- The step of the world

-- message number n of a member
abbrev pub message : Node → ℕ → Message
message v n = slice_index_or v.sent (n - 1) (Ack (stamp 0 0))

abbrev pub is_sent_full : Group → Node → Bool
is_sent_full group v = nat_le group.sent_limit (length v.sent)

-- why so many commands are not submitted, the first of them with this serial
abbrev pub submit_refusal : Group → Node → ℕ → ℕ → ℕ → Option Refusal
submit_refusal group v caller serial count =
    if is_bad_batch serial count then Some BadBatch
    else (if nat_le last_clock v.clock then Some ClockFull
    else (if is_sent_full group v then Some SentFull
    else (if serial == next_serial caller (submissions v.sent) then None
    else Some (BadSerial (next_serial caller (submissions v.sent))))))

abbrev pub room_refusal : Group → Node → Message → Option Refusal
room_refusal group v m =
    if nat_lt last_clock (clock_after v m) then Some ClockFull
    else (if must_acknowledge v m && is_sent_full group v then Some SentFull else None)

abbrev pub receive_refusal : Group → Node → Node → ℕ → Option Refusal
receive_refusal group v sender n =
    if n == 0 || nat_lt (length sender.sent) n then Some NotSent
    else (if nat_lt n (read_of v sender.number + 1) then Some (Repeat (read_of v sender.number + 1))
    else (if nat_lt (read_of v sender.number + 1) n then Some (Gap (read_of v sender.number + 1))
    else room_refusal group v (message sender n)))

abbrev pub batch_refusal : World → ℕ → ℕ → ℕ → ℕ → Option Refusal
batch_refusal w at caller serial count =
    if is_member w at then submit_refusal w.group (node w at) caller serial count else Some UnknownMember

-- why an event is refused: the first that applies; one command is a batch of one
abbrev pub refusal : World → Event → Option Refusal
refusal w (Submit at caller serial command) = batch_refusal w at caller serial 1
refusal w (SubmitBatch at caller serial commands) = batch_refusal w at caller serial (length commands)
refusal w (Receive at from n) =
    if is_member w at && is_member w from
    then (if from == at then Some FromSelf else receive_refusal w.group (node w at) (node w from) n)
    else Some UnknownMember
refusal w (Deliver at) = if is_member w at then None else Some UnknownMember

abbrev pub with_node : World → ℕ → Node → World
with_node w at v = record w { nodes = slice_set w.nodes (at - 1) v }

-- the world after an event that is not refused
abbrev pub after : World → Event → World
after w (Submit at caller serial command) = with_node w at (submit_at (node w at) caller serial (command ∷ []))
after w (SubmitBatch at caller serial commands) = with_node w at (submit_at (node w at) caller serial commands)
after w (Receive at from n) = with_node w at (receive_at (node w at) from (message (node w from) n))
after w (Deliver at) = with_node w at (deliver_at w.vocabulary (node w at) (due w (node w at)))

abbrev pub place_of : Node → Option Submission → Option ℕ
place_of v None = None
place_of v (Some x) = Some (length v.history)

-- what an event that is not refused gives
abbrev pub outcome : World → Event → Outcome
outcome w (Submit at caller serial command) = Submitted (stamp ((node w at).clock + 1) at)
outcome w (SubmitBatch at caller serial commands) = Submitted (stamp ((node w at).clock + 1) at)
outcome w (Receive at from n) = Received (acknowledgement (node w at) (message (node w from) n))
outcome w (Deliver at) = Delivered (place_of (node w at) (due w (node w at)))

abbrev pub answer_unless : Option Refusal → Outcome → Result Outcome Refusal
answer_unless None o = Ok o
answer_unless (Some r) o = Err r

abbrev pub world_unless : Option Refusal → World → World → World
world_unless None new old = new
world_unless (Some r) new old = old

-- the step of the world: its outcome or its first refusal, and the world after it, which a refusal leaves as it was
abbrev pub step_outcome : World → Event → Result Outcome Refusal
step_outcome w e = answer_unless (refusal w e) (outcome w e)

abbrev pub step : World → Event → World
step w e = world_unless (refusal w e) (after w e) w
