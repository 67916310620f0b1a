-- What a line of a schedule does to its member, as text for people: what the member sends, takes or delivers, what it holds back
-- then, and whom it waits for. The world is that after the line.
use Rattle.std.specs.Prelude.{ℕ, Bool, not, ◌==◌, ◌-◌, ◌||◌, ◌&&◌, nat_lt, if◌then◌else◌, List, [], ◌∷◌, ◌++◌, codes, decimal, length, take, Option, Some, None, slice_get}
use Rattle.std.specs.List.{flat_map, filter}
use Rattle.rbac_words.specs.Limits.{most_members}
use Rattle.rbac_words.specs.Stamp.{is_after, last_stamp, sort_by_stamp}
use Rattle.rbac_words.specs.Message.{stamp_of, has_later, submitted_at, next_place, commands_of}
use Rattle.rbac_words.specs.World.{World, Node, node, is_member, heard_of}
use Rattle.rbac_words.specs.Keeping.Member.{numbers}
use Rattle.rbac_terms.specs.declared.command.Command.{Command}
use Rattle.rbac_words.specs.declared.stamp.Stamp.{Stamp}
use Rattle.rbac_words.specs.declared.message.Message.{Message}
use Rattle.rbac_words.specs.declared.message.Message.TheVariants.{Batch, Ack}
use Rattle.rbac_words.specs.declared.record.Record.{Record}
use Rattle.rbac_words.specs.declared.event.Event.{Event}
use Rattle.rbac_words.specs.declared.event.Event.TheVariants.{Submit, SubmitBatch, Receive, Deliver}
use Rattle.rbac_words.specs.declared.event.Outcome.{Outcome}
use Rattle.rbac_words.specs.declared.event.Outcome.TheVariants.{Submitted, Received, Delivered}
use Rattle.rbac_text.specs.AnswerText.{answer_text}
use Rattle.rbac_message_text.specs.StampText.{stamp_text}
use Rattle.rbac_text.specs.CommandText.{command_text}
use Rattle.rbac_pages.specs.declared.held.Awaited.{Awaited}

-- line 5:
abbrev pub line_text : ℕ → List ℕ
line_text line = codes "line " ++ decimal line ++ codes ": "

-- ---- What was done

abbrev pub asked_text : Command → List ℕ
asked_text command = codes " " ++ command_text command

-- member 1 sends message 1 at [1,1] {"name":"AddUser","user":"ann"}
abbrev pub sent_text : Node → Stamp → List Command → List ℕ
sent_text v stamp commands =
    codes "member " ++ decimal v.number ++ codes " sends message " ++ decimal (length v.sent) ++ codes " at " ++ stamp_text stamp
    ++ flat_map asked_text commands ++ codes "\n"

abbrev pub acknowledged_text : Option Stamp → List ℕ
acknowledged_text None = []
acknowledged_text (Some stamp) = codes ", and acknowledges it at " ++ stamp_text stamp

-- member 1 takes message 1 of member 2, and acknowledges it at [3,1]
abbrev pub taken_text : ℕ → ℕ → ℕ → Option Stamp → List ℕ
taken_text at from number acknowledged =
    codes "member " ++ decimal at ++ codes " takes message " ++ decimal number ++ codes " of member " ++ decimal from ++ acknowledged_text acknowledged ++ codes "\n"

-- member 1 delivers [1,1]: "Done"
abbrev pub delivered_text : Node → Option Record → List ℕ
delivered_text v None = codes "member " ++ decimal v.number ++ codes " delivers nothing\n"
delivered_text v (Some delivered) =
    codes "member " ++ decimal v.number ++ codes " delivers " ++ stamp_text delivered.stamp ++ codes ": " ++ answer_text delivered.answer ++ codes "\n"

-- the record at a place of a history
abbrev pub record_at : List Record → Option ℕ → Option Record
record_at history None = None
record_at history (Some place) = slice_get history place

-- the member that an event is for
abbrev pub member_of : Event → ℕ
member_of (Submit at caller serial command) = at
member_of (SubmitBatch at caller serial commands) = at
member_of (Receive at from number) = at
member_of (Deliver at) = at

-- the event and its outcome; an outcome that is none of the event leaves the line empty
abbrev pub submitted_text : Node → Event → Stamp → List ℕ
submitted_text v (Submit at caller serial command) stamp = sent_text v stamp (command ∷ [])
submitted_text v (SubmitBatch at caller serial commands) stamp = sent_text v stamp commands
submitted_text v (Receive at from number) stamp = codes "\n"
submitted_text v (Deliver at) stamp = codes "\n"

abbrev pub received_text : Event → Option Stamp → List ℕ
received_text (Receive at from number) acknowledged = taken_text at from number acknowledged
received_text (Submit at caller serial command) acknowledged = codes "\n"
received_text (SubmitBatch at caller serial commands) acknowledged = codes "\n"
received_text (Deliver at) acknowledged = codes "\n"

unfoldable pub done_text : Node → Event → Outcome → List ℕ
done_text v event (Submitted stamp) = submitted_text v event stamp
done_text v event (Received acknowledged) = received_text event acknowledged
done_text v event (Delivered place) = delivered_text v (record_at v.history place)

-- ---- What a member holds back, and whom it waits for

-- the numbers that members have
abbrev pub member_numbers : List ℕ
member_numbers = numbers most_members 0

-- the stamps of commands that follow one another in places
abbrev pub stamps_from : Stamp → List Command → List Stamp
stamps_from s [] = []
stamps_from s (c ∷ cs) = s ∷ stamps_from (next_place s) cs

-- of a message's commands the stamps of those that come after the last one that was delivered
abbrev pub held_in : Option Stamp → Message → List Stamp
held_in last (Batch stamp caller serial commands) = filter (is_after last) (stamps_from stamp commands)
held_in last (Ack stamp) = []

-- the same of all that a member has heard of another one, or of itself
abbrev pub held_of : Node → Node → List Stamp
held_of v other = flat_map (held_in (last_stamp submitted_at (commands_of v.history))) (heard_of v other)

abbrev pub held_of_number : World → Node → ℕ → List Stamp
held_of_number w v k = if is_member w k then held_of v (node w k) else []

-- what a member holds back, by the stamps and in their order: of all commands that it has heard those after the last one that it
-- delivered, since deliveries are in that order
unfoldable pub held_stamps : World → Node → List Stamp
held_stamps w v = sort_by_stamp (λ s. s) (flat_map (held_of_number w v) member_numbers)

-- a member that another one waits for, and the stamp of the last message that was heard of it: no message of it with a greater stamp
-- than this command's was heard, and it is neither the one that waits nor the command's own
abbrev pub is_awaited : Node → Stamp → ℕ → Node → Bool
is_awaited v stamp k other = not ((k == v.number || k == stamp.member) || has_later (heard_of v other) stamp)

abbrev pub awaited_of_number : World → Node → Stamp → ℕ → List Awaited
awaited_of_number w v stamp k =
    if is_member w k && is_awaited v stamp k (node w k) then record { member = k; last = last_stamp stamp_of (heard_of v (node w k)) } ∷ []
    else []

unfoldable pub awaited : World → Node → Stamp → List Awaited
awaited w v stamp = flat_map (awaited_of_number w v stamp) member_numbers

-- ---- as text

abbrev pub named_text : Stamp → List ℕ
named_text stamp = codes " " ++ stamp_text stamp

-- [1,1] [1,2], at most eight, and how many more
abbrev pub others_text : ℕ → List ℕ
others_text count = if nat_lt 8 count then codes " and " ++ decimal (count - 8) ++ codes " more" else []

abbrev pub held_text : List Stamp → List ℕ
held_text held = flat_map named_text (take 8 held) ++ others_text (length held)

abbrev pub last_text : Option Stamp → List ℕ
last_text None = codes " (none taken)"
last_text (Some stamp) = codes " (last taken " ++ stamp_text stamp ++ codes ")"

-- , of member 3 (none taken)
abbrev pub awaited_text : Awaited → List ℕ
awaited_text one = codes ", of member " ++ decimal one.member ++ last_text one.last

unfoldable pub waits_text : List Awaited → List ℕ
waits_text those = codes " waits for a greater stamp" ++ flat_map awaited_text those ++ codes "\n"

abbrev pub waiting_text : List Awaited → List ℕ
waiting_text [] = codes " may be delivered\n"
waiting_text (one ∷ more) = waits_text (one ∷ more)

abbrev pub holding_text : World → Node → List Stamp → List ℕ
holding_text w v [] = codes " nothing\n"
holding_text w v (least ∷ more) = held_text (least ∷ more) ++ codes "; " ++ stamp_text least ++ waiting_text (awaited w v least)

--   member 1 holds [1,1] [1,2]; [1,1] waits for a greater stamp, of member 3 (none taken)
unfoldable pub state_text : World → Node → List ℕ
state_text w v = codes "  member " ++ decimal v.number ++ codes " holds" ++ holding_text w v (held_stamps w v)

-- ---- The texts

abbrev pub event_text : World → Event → Outcome → List ℕ
event_text w event outcome =
    if is_member w (member_of event)
    then done_text (node w (member_of event)) event outcome ++ state_text w (node w (member_of event))
    else codes "\n"

abbrev pub step_text : ℕ → World → Event → Outcome → List ℕ
step_text line w event outcome = line_text line ++ event_text w event outcome

--   member 1: clock 5, messages sent 2, commands delivered 2
unfoldable pub numbers_text : ℕ → ℕ → ℕ → ℕ → List ℕ
numbers_text number clock sent delivered =
    codes "  member " ++ decimal number ++ codes ": clock " ++ decimal clock ++ codes ", messages sent " ++ decimal sent
    ++ codes ", commands delivered " ++ decimal delivered ++ codes "\n"

abbrev pub node_text : World → Node → List ℕ
node_text w v = numbers_text v.number v.clock (length v.sent) (length v.history) ++ state_text w v

abbrev pub standing_text : World → ℕ → List ℕ
standing_text w k = if is_member w k then node_text w (node w k) else []

abbrev pub end_text : World → List ℕ
end_text w = codes "at the end:\n" ++ flat_map (standing_text w) member_numbers
