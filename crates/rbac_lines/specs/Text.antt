-- What a line is answered with: compact JSON without blanks, its keys in the order of their bytes, and a line feed.
use Rattle.std.specs.Prelude.{ℕ, List, ◌++◌, codes, decimal, Option, Some, None, Result, Ok, Err}
use Rattle.rbac_words.specs.declared.stamp.Stamp.{Stamp}
use Rattle.rbac_words.specs.declared.record.Record.{Record}
use Rattle.rbac_terms.specs.declared.answer.Answer.{Answer}
use Rattle.rbac_words.specs.declared.event.Outcome.{Outcome}
use Rattle.rbac_words.specs.declared.event.Outcome.TheVariants.{Submitted, Received, Delivered}
use Rattle.rbac_words.specs.declared.event.Refusal.{Refusal}
use Rattle.rbac_words.specs.declared.event.Refusal.TheVariants.{UnknownMember, BadBatch, FromSelf, NotSent, Repeat, Gap, StampNotRising, ClockFull, SentFull, BadSerial, NoMemory}
use Rattle.rbac_lines.specs.declared.refusal.DeskRefusal.{DeskRefusal}
use Rattle.rbac_lines.specs.declared.refusal.DeskRefusal.TheVariants.{UnknownMember as DeskUnknownMember, Stopped, Busy, ClockFull as DeskClockFull, SentFull as DeskSentFull, NoMemory as DeskNoMemory}
use Rattle.rbac_text.specs.declared.refusal.LineRefusal.{LineRefusal}
use Rattle.rbac_text.specs.AnswerText.{answer_text}
use Rattle.rbac_text.specs.Refusals.{line_refusal_word}
use Rattle.rbac_message_text.specs.StampText.{stamp_text}

-- ---- Parts of a text

-- a stamp, or null where there is none
abbrev pub stamp_or_null : Option Stamp → List ℕ
stamp_or_null (Some stamp) = stamp_text stamp
stamp_or_null None = codes "null"

-- how each refusal ends
abbrev pub refused_word_text : List ℕ → List ℕ
refused_word_text word = codes ",\"refused\":\"" ++ word ++ codes "\"}\n"

-- ---- Outcomes

-- {"line":5,"stamp":[1,1]}: a command was submitted at this stamp
abbrev pub submitted_text : ℕ → Stamp → List ℕ
submitted_text line stamp = codes "{\"line\":" ++ decimal line ++ codes ",\"stamp\":" ++ stamp_text stamp ++ codes "}\n"

-- {"acknowledged":[3,1],"line":5} where a message was received and acknowledged, and {"acknowledged":null,"line":5} where
-- it was not acknowledged
abbrev pub received_text : ℕ → Option Stamp → List ℕ
received_text line acknowledged = codes "{\"acknowledged\":" ++ stamp_or_null acknowledged ++ codes ",\"line\":" ++ decimal line ++ codes "}\n"

-- {"answer":"Done","caller":0,"line":5,"serial":0,"stamp":[1,1]}: a command was delivered, and this is its record
abbrev pub delivered_text : ℕ → Record → List ℕ
delivered_text line delivered =
    codes "{\"answer\":" ++ answer_text delivered.answer ++ codes ",\"caller\":" ++ decimal delivered.caller ++ codes ",\"line\":" ++ decimal line
    ++ codes ",\"serial\":" ++ decimal delivered.serial ++ codes ",\"stamp\":" ++ stamp_text delivered.stamp ++ codes "}\n"

-- {"answer":null,"line":5}: no command was due
abbrev pub nothing_delivered_text : ℕ → List ℕ
nothing_delivered_text line = codes "{\"answer\":null,\"line\":" ++ decimal line ++ codes "}\n"

-- the text of an outcome of the event of this line, with the record that was delivered, if one was
abbrev pub outcome_text : ℕ → Outcome → Option Record → List ℕ
outcome_text line (Submitted stamp) delivered = submitted_text line stamp
outcome_text line (Received acknowledgement) delivered = received_text line acknowledgement
outcome_text line (Delivered place) (Some delivered) = delivered_text line delivered
outcome_text line (Delivered place) None = nothing_delivered_text line

-- ---- Refusals

-- the word of an event's refusal
abbrev pub refusal_word : Refusal → List ℕ
refusal_word UnknownMember = codes "UnknownMember"
refusal_word BadBatch = codes "BadBatch"
refusal_word FromSelf = codes "FromSelf"
refusal_word NotSent = codes "NotSent"
refusal_word (Repeat expected) = codes "Repeat"
refusal_word (Gap expected) = codes "Gap"
refusal_word StampNotRising = codes "StampNotRising"
refusal_word ClockFull = codes "ClockFull"
refusal_word SentFull = codes "SentFull"
refusal_word (BadSerial next) = codes "BadSerial"
refusal_word NoMemory = codes "NoMemory"

-- {"line":5,"refused":"NotSent"}: a refusal that has no more to tell
abbrev pub refused_text : ℕ → List ℕ → List ℕ
refused_text line word = codes "{\"line\":" ++ decimal line ++ refused_word_text word

-- {"expected":1,"line":5,"refused":"Gap"}: a message out of turn
abbrev pub out_of_turn_text : ℕ → ℕ → List ℕ → List ℕ
out_of_turn_text line expected word = codes "{\"expected\":" ++ decimal expected ++ codes ",\"line\":" ++ decimal line ++ refused_word_text word

-- {"line":5,"next":0,"refused":"BadSerial"}: a serial out of turn
abbrev pub bad_serial_text : ℕ → ℕ → List ℕ → List ℕ
bad_serial_text line next word = codes "{\"line\":" ++ decimal line ++ codes ",\"next\":" ++ decimal next ++ refused_word_text word

-- the text of a refusal of this line's event
abbrev pub refusal_text : ℕ → Refusal → List ℕ
refusal_text line (Repeat expected) = out_of_turn_text line expected (refusal_word (Repeat expected))
refusal_text line (Gap expected) = out_of_turn_text line expected (refusal_word (Gap expected))
refusal_text line (BadSerial next) = bad_serial_text line next (refusal_word (BadSerial next))
refusal_text line refusal = refused_text line (refusal_word refusal)

-- the text of a refusal of this line itself
abbrev pub line_refusal_text : ℕ → LineRefusal → List ℕ
line_refusal_text line refusal = refused_text line (line_refusal_word refusal)

-- ---- Replies to client lines

-- the word of a desk's refusal
abbrev pub desk_refusal_word : DeskRefusal → List ℕ
desk_refusal_word DeskUnknownMember = codes "UnknownMember"
desk_refusal_word Stopped = codes "Stopped"
desk_refusal_word Busy = codes "Busy"
desk_refusal_word DeskClockFull = codes "ClockFull"
desk_refusal_word DeskSentFull = codes "SentFull"
desk_refusal_word DeskNoMemory = codes "NoMemory"

-- {"answer":"Done","line":5}: the command of a client line was answered
abbrev pub answered_text : ℕ → Answer → List ℕ
answered_text line answer = codes "{\"answer\":" ++ answer_text answer ++ codes ",\"line\":" ++ decimal line ++ codes "}\n"

-- what a desk replies to a command: the answer, or why there is none
abbrev pub Reply : Type 0
Reply = Result Answer DeskRefusal

-- the text of a reply to the command of this line
abbrev pub reply_text : ℕ → Reply → List ℕ
reply_text line (Ok answer) = answered_text line answer
reply_text line (Err refusal) = refused_text line (desk_refusal_word refusal)
