-- A schedule as Lamport's space-time diagram, in SVG: a line for each member, a row for each line of the schedule, and in the row what
-- its event did. Time runs down.
use Rattle.std.specs.Prelude.{ℕ, ◌+◌, ◌*◌, ◌-◌, ◌^◌, ◌==◌, ◌&&◌, nat_le, min, max, filter, count_by, if◌then◌else◌, List, [], ◌∷◌, ◌++◌, codes, decimal, length, Option, Some, None, slice_get}
use Rattle.std.specs.List.{flat_map}
use Rattle.rbac_terms.specs.Denials.{denial_word}
use Rattle.rbac_terms.specs.declared.answer.Answer.{Answer}
use Rattle.rbac_terms.specs.declared.answer.Answer.TheVariants.{Done, Granted, Refused, Names, Permissions, Count, Denied}
use Rattle.rbac_words.specs.World.{World, Node, node, is_member}
use Rattle.rbac_words.specs.declared.stamp.Stamp.{Stamp}
use Rattle.rbac_words.specs.declared.record.Record.{Record}
use Rattle.rbac_words.specs.declared.event.Event.{Event}
use Rattle.rbac_words.specs.declared.event.Event.TheVariants.{Submit, SubmitBatch, Receive, Deliver}
use Rattle.rbac_words.specs.declared.event.Outcome.{Outcome}
use Rattle.rbac_words.specs.declared.event.Outcome.TheVariants.{Submitted, Received, Delivered}
use Rattle.rbac_words.specs.declared.event.Refusal.{Refusal}
use Rattle.rbac_message_text.specs.StampText.{stamp_text}
use Rattle.rbac_text.specs.Command.{command_word}
use Rattle.rbac_pages.specs.declared.diagram.marks.Place.{Place}
use Rattle.rbac_pages.specs.declared.diagram.messages.Sent.{Sent}
use Rattle.rbac_pages.specs.declared.held.Awaited.{Awaited}
use Rattle.rbac_pages.specs.RefusedText.{refusal_sentence}
use Rattle.rbac_pages.specs.TraceText.{member_of, member_numbers, record_at, held_stamps, awaited}

-- ---- Places. A number stops at the greatest of 64 bits

abbrev pub plus : ℕ → ℕ → ℕ
plus a b = min (a + b) (2 ^ 64 - 1)

abbrev pub times : ℕ → ℕ → ℕ
times a b = min (a * b) (2 ^ 64 - 1)

-- where a member's line meets a row: members stand 220 apart, rows 26
unfoldable pub place_at : ℕ → ℕ → Place
place_at member row = record { x = plus 84 (times 220 (member - 1)); y = plus 124 (times 26 row) }

-- ---- Marks

-- a text, or a circle, begins with its place
unfoldable pub text_at : Place → List ℕ
text_at place = codes "<text x=\"" ++ decimal place.x ++ codes "\" y=\"" ++ decimal place.y

unfoldable pub circle_right : ℕ → List ℕ
circle_right x = codes "<circle cx=\"" ++ decimal x

unfoldable pub circle_at : Place → List ℕ
circle_at place = circle_right place.x ++ codes "\" cy=\"" ++ decimal place.y

unfoldable pub radius_text : List ℕ → List ℕ
radius_text class = codes "\" r=\"5\" class=\"" ++ class ++ codes "\"/>\n"

unfoldable pub dot_text : Place → List ℕ → List ℕ
dot_text place class = circle_at place ++ radius_text class

-- the two ends of a line, whose mark its class ends
unfoldable pub line_text : Place → Place → List ℕ
line_text begin end =
    codes "<line x1=\"" ++ decimal begin.x ++ codes "\" y1=\"" ++ decimal begin.y ++ codes "\" x2=\"" ++ decimal end.x ++ codes "\" y2=\"" ++ decimal end.y ++ codes "\""

abbrev pub arrow_end : List ℕ
arrow_end = codes " class=\"message\" marker-end=\"url(#tip)\"/>\n"

unfoldable pub arrow_text : Place → Place → List ℕ
arrow_text begin end = line_text begin end ++ arrow_end

unfoldable pub stroke_text : Place → Place → List ℕ
stroke_text begin end = line_text begin end ++ codes " class=\"refused\"/>\n"

unfoldable pub cross_text : Place → List ℕ
cross_text p =
    stroke_text (record { x = p.x - 4; y = p.y - 4 }) (record { x = plus p.x 4; y = plus p.y 4 })
    ++ stroke_text (record { x = p.x - 4; y = plus p.y 4 }) (record { x = plus p.x 4; y = p.y - 4 })

unfoldable pub label_text : Place → List ℕ
label_text place = text_at (record { x = plus place.x 11; y = plus place.y 4 }) ++ codes "\" class=\"small\">"

-- words at a place's right
unfoldable pub words_at : Place → List ℕ → List ℕ
words_at place words = label_text place ++ words ++ codes "</text>\n"

-- ---- Words

-- what a review lists is told by its length
abbrev pub answer_word : Answer → List ℕ
answer_word Done = codes "Done"
answer_word Granted = codes "Granted"
answer_word Refused = codes "Refused"
answer_word (Names names) = decimal (length names) ++ codes " names"
answer_word (Permissions permissions) = decimal (length permissions) ++ codes " permissions"
answer_word (Count count) = decimal count
answer_word (Denied denial) = denial_word denial

abbrev pub submitted_word : Event → List ℕ
submitted_word (Submit at caller serial command) = command_word command
submitted_word (SubmitBatch at caller serial commands) = codes "batch of " ++ decimal (length commands)
submitted_word (Receive at from number) = []
submitted_word (Deliver at) = []

-- [1,1] AddUser
abbrev pub submitted_words : Event → Stamp → List ℕ
submitted_words event stamp = stamp_text stamp ++ codes " " ++ submitted_word event

-- 2, 3
abbrev pub other_number : Awaited → List ℕ
other_number one = codes ", " ++ decimal one.member

abbrev pub numbers_of : List Awaited → List ℕ
numbers_of [] = []
numbers_of (one ∷ more) = codes " " ++ decimal one.member ++ flat_map other_number more

-- why a member delivers nothing: [1,1] waits for 2, 3
abbrev pub waiting_words : World → Node → List Stamp → List ℕ
waiting_words w v [] = codes "holds nothing"
waiting_words w v (least ∷ more) = stamp_text least ++ codes " waits for" ++ numbers_of (awaited w v least)

abbrev pub delivered_words : Record → List ℕ
delivered_words delivered = stamp_text delivered.stamp ++ codes " " ++ answer_word delivered.answer

abbrev pub acknowledged_words : Stamp → List ℕ
acknowledged_words stamp = stamp_text stamp ++ codes " acknowledges"

-- ---- A row

-- the mark of what an event did, where its member's line meets the row
unfoldable pub sent_mark : ℕ → Event → Stamp → List ℕ
sent_mark row event stamp = dot_text (place_at (member_of event) row) (codes "sends") ++ words_at (place_at (member_of event) row) (submitted_words event stamp)

abbrev pub acknowledged_mark : Place → Option Stamp → List ℕ
acknowledged_mark place None = []
acknowledged_mark place (Some stamp) = words_at place (acknowledged_words stamp)

abbrev pub taken_mark : Place → Option Stamp → List ℕ
taken_mark place acknowledged = dot_text place (codes "takes") ++ acknowledged_mark place acknowledged

unfoldable pub received_mark : ℕ → Event → Option Stamp → List ℕ
received_mark row (Receive at from number) acknowledged = taken_mark (place_at at row) acknowledged
received_mark row (Submit at caller serial command) acknowledged = []
received_mark row (SubmitBatch at caller serial commands) acknowledged = []
received_mark row (Deliver at) acknowledged = []

abbrev pub delivered_mark : World → Node → Place → Option Record → List ℕ
delivered_mark w v place (Some delivered) = dot_text place (codes "delivers") ++ words_at place (delivered_words delivered)
delivered_mark w v place None = dot_text place (codes "waits") ++ words_at place (waiting_words w v (held_stamps w v))

unfoldable pub delivery_mark : ℕ → World → ℕ → Option ℕ → List ℕ
delivery_mark row w at place = if is_member w at then delivered_mark w (node w at) (place_at at row) (record_at (node w at).history place) else []

abbrev pub event_mark : ℕ → World → Event → Outcome → List ℕ
event_mark row w event (Submitted stamp) = sent_mark row event stamp
event_mark row w event (Received acknowledged) = received_mark row event acknowledged
event_mark row w event (Delivered place) = delivery_mark row w (member_of event) place

-- the number of the line, at the left
unfoldable pub line_number : ℕ → List ℕ
line_number line = codes "\" text-anchor=\"end\" class=\"small\">" ++ decimal line ++ codes "</text>\n"

unfoldable pub number_mark : ℕ → ℕ → List ℕ
number_mark row line = text_at (record { x = 44; y = plus (place_at 1 row).y 4 }) ++ line_number line

-- ---- Messages

-- a message that was sent: by whom, and in which row; message n of a member is the n-th of its own
abbrev pub row_of_message : List Sent → ℕ → ℕ → Option Sent
row_of_message sent from number = slice_get (filter (λ (s : Sent). s.member == from) sent) (number - 1)

abbrev pub arrow_from : Option Sent → Place → List ℕ
arrow_from None place = []
arrow_from (Some s) place = arrow_text (place_at s.member s.row) place

abbrev pub taken_arrow : List Sent → ℕ → Event → List ℕ
taken_arrow sent row (Receive at from number) = arrow_from (row_of_message sent from number) (place_at at row)
taken_arrow sent row (Submit at caller serial command) = []
taken_arrow sent row (SubmitBatch at caller serial commands) = []
taken_arrow sent row (Deliver at) = []

-- the arrow of a message that is taken, from where it was sent
abbrev pub event_arrow : List Sent → ℕ → Event → Outcome → List ℕ
event_arrow sent row event (Received acknowledged) = taken_arrow sent row event
event_arrow sent row event (Submitted stamp) = []
event_arrow sent row event (Delivered place) = []

-- the messages that were sent, with that of the event if it sent one
abbrev pub sent_with : List Sent → ℕ → Event → Outcome → List Sent
sent_with sent row event (Submitted stamp) = sent ++ record { member = member_of event; row = row } ∷ []
sent_with sent row event (Received (Some stamp)) = sent ++ record { member = member_of event; row = row } ∷ []
sent_with sent row event (Received None) = sent
sent_with sent row event (Delivered place) = sent

-- ---- The diagram

-- how many members and rows it has, the messages that were sent, and its arrows and other marks so far
pub record Drawing : Type 0 where
  pub members : ℕ
  pub rows : ℕ
  pub sent : List Sent
  pub arrows : List ℕ
  pub marks : List ℕ

abbrev pub begun : World → Drawing
begun w = record { members = count_by (is_member w) member_numbers; rows = 0; sent = []; arrows = []; marks = [] }

-- a row more, of the event of a line that was not refused, in the world after it
abbrev pub with_row : Drawing → ℕ → World → Event → Outcome → Drawing
with_row d line w event outcome = record {
  members = d.members;
  rows = plus d.rows 1;
  sent = sent_with d.sent d.rows event outcome;
  arrows = d.arrows ++ event_arrow d.sent d.rows event outcome;
  marks = d.marks ++ (number_mark d.rows line ++ event_mark d.rows w event outcome);
}

-- where a refusal is marked: at the event's member, or at the first where there is no such member
abbrev pub refused_at : Drawing → Event → ℕ
refused_at d event = if nat_le 1 (member_of event) && nat_le (member_of event) d.members then member_of event else 1

abbrev pub refused_mark : Place → Refusal → List ℕ
refused_mark place refusal = cross_text place ++ words_at place (refusal_sentence refusal)

abbrev pub with_refused_row : Drawing → ℕ → Event → Refusal → Drawing
with_refused_row d line event refusal = record d {
  rows = plus d.rows 1;
  marks = d.marks ++ (number_mark d.rows line ++ refused_mark (place_at (refused_at d event) d.rows) refusal);
}

-- ---- The picture

unfoldable pub width_text : ℕ → List ℕ
width_text width = codes "<svg xmlns=\"http://www.w3.org/2000/svg\" width=\"" ++ decimal width

unfoldable pub size_text : ℕ → ℕ → List ℕ
size_text width height = width_text width ++ codes "\" height=\"" ++ decimal height

unfoldable pub view_width : ℕ → List ℕ
view_width width = codes "\" viewBox=\"0 0 " ++ decimal width

unfoldable pub view_height : ℕ → List ℕ
view_height height = codes " " ++ decimal height ++ codes "\" role=\"img\">\n"

unfoldable pub view_text : ℕ → ℕ → List ℕ
view_text width height = view_width width ++ view_height height

unfoldable pub frame_text : ℕ → ℕ → List ℕ
frame_text width height = size_text width height ++ view_text width height

-- the title, how marks look, and how to read them
unfoldable pub style_text : List ℕ
style_text =
    codes "<title>The schedule as a space-time diagram</title>\n"
    ++ codes "<style>\n"
    ++ codes "text { font: 13px sans-serif; fill: #222; paint-order: stroke; stroke: white; stroke-width: 4px; stroke-linejoin: round } .small { font-size: 11px; fill: #555 } .name { font-weight: bold }\n"
    ++ codes "line { stroke: #9ab; stroke-width: 1.2 } .message { stroke: #456 } circle { stroke: white; stroke-width: 1.5 } .sends { fill: #2a62b8 } .takes { fill: #456 } .delivers { fill: #2c8a4b }\n"
    ++ codes ".waits { fill: white; stroke: #456 } .refused { stroke: #b33; stroke-width: 2.2 }\n"
    ++ codes "</style>\n"
    ++ codes "<defs><marker id=\"tip\" viewBox=\"0 0 8 8\" refX=\"13\" refY=\"4\" markerWidth=\"8\" markerHeight=\"8\" orient=\"auto\">\n"
    ++ codes "<path d=\"M0,0 L8,4 L0,8 z\" fill=\"#456\"/></marker></defs>\n"
    ++ codes "<rect width=\"100%\" height=\"100%\" style=\"fill: white; stroke: none\"/>\n"
    ++ codes "<text x=\"24\" y=\"26\" class=\"small\">Time runs down, a row for each line. An arrow is a message, from where it was sent to where it was taken.</text>\n"

unfoldable pub refused_meaning : Place → List ℕ
refused_meaning place = cross_text place ++ words_at place (codes "refused")

-- what a mark means
unfoldable pub meaning_text : Place → List ℕ → List ℕ → List ℕ
meaning_text place class words = dot_text place class ++ words_at place words

unfoldable pub first_meanings : List ℕ
first_meanings =
    meaning_text (record { x = 30; y = 44 }) (codes "sends") (codes "a command is submitted, and sent at its stamp")
    ++ meaning_text (record { x = 318; y = 44 }) (codes "takes") (codes "a message is taken")

unfoldable pub other_meanings : List ℕ
other_meanings =
    meaning_text (record { x = 450; y = 44 }) (codes "delivers") (codes "the least held command is delivered")
    ++ meaning_text (record { x = 30; y = 64 }) (codes "waits") (codes "nothing is delivered: whom the least held command waits for")

-- the line of a member, from above the first row to the last one, with its name above
unfoldable pub name_text : ℕ → List ℕ
name_text k = codes "\" text-anchor=\"middle\" class=\"name\">member " ++ decimal k ++ codes "</text>\n"

unfoldable pub member_name : Place → ℕ → List ℕ
member_name place k = text_at place ++ name_text k

unfoldable pub member_text : ℕ → ℕ → List ℕ
member_text k rows =
    member_name (record { x = (place_at k 0).x; y = (place_at k 0).y - 16 - 8 }) k
    ++ line_text (record { x = (place_at k 0).x; y = (place_at k 0).y - 16 }) (record { x = (place_at k 0).x; y = (place_at k rows).y }) ++ codes "/>\n"

abbrev pub member_of_number : ℕ → ℕ → ℕ → List ℕ
member_of_number members rows k = if nat_le k members then member_text k rows else []

-- the frame, the legend, the lines of the members, and the arrows and marks of the rows
abbrev pub picture_text : Drawing → List ℕ
picture_text d =
    frame_text (max (plus 84 (times 220 d.members)) 720) (plus (place_at 1 d.rows).y 24)
    ++ style_text
    ++ first_meanings
    ++ other_meanings
    ++ refused_meaning (record { x = 450; y = 64 })
    ++ flat_map (member_of_number d.members d.rows) member_numbers
    ++ d.arrows
    ++ d.marks
    ++ codes "</svg>\n"
