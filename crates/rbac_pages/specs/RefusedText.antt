-- Why an event of a schedule, or a line of it, is refused, as text for people.
use Rattle.std.specs.Prelude.{ℕ, List, ◌++◌, codes, decimal}
use Rattle.rbac_words.specs.declared.event.Refusal.{Refusal}
use Rattle.rbac_words.specs.declared.event.Refusal.TheVariants.{UnknownMember, BadBatch, FromSelf, NotSent, Repeat, Gap, StampNotRising, ClockFull, SentFull, BadSerial, NoMemory}
use Rattle.rbac_text.specs.declared.refusal.LineRefusal.{LineRefusal}
use Rattle.rbac_text.specs.declared.refusal.LineRefusal.TheVariants.{TooLong, NotJson, NotObject, UnknownWord, MissingField, WrongKind, BadName, ExtraField, NoMemory as LineNoMemory}

abbrev pub refusal_sentence : Refusal → List ℕ
refusal_sentence UnknownMember = codes "the group has no member of this number"
refusal_sentence BadBatch = codes "a message has 1 to 64 commands, with serials up to 4294967295"
refusal_sentence FromSelf = codes "a member receives nothing from itself"
refusal_sentence NotSent = codes "the sender has sent no message of this number"
refusal_sentence (Repeat expected) = codes "the message was received before: expected message " ++ decimal expected
refusal_sentence (Gap expected) = codes "a message before this one is missing: expected message " ++ decimal expected
refusal_sentence StampNotRising = codes "the stamp is none of a message of the sender, or not above the last one taken from it"
refusal_sentence ClockFull = codes "the member's clock is at its limit"
refusal_sentence SentFull = codes "the member has sent as many messages as the founding allows"
refusal_sentence (BadSerial next) = codes "expected serial " ++ decimal next
refusal_sentence NoMemory = codes "no memory"

abbrev pub line_refusal_sentence : LineRefusal → List ℕ
line_refusal_sentence TooLong = codes "the line has more than 65536 bytes"
line_refusal_sentence NotJson = codes "the line is no JSON text"
line_refusal_sentence NotObject = codes "the value is no object"
line_refusal_sentence UnknownWord = codes "the word of the line, or the name of its command, is not known"
line_refusal_sentence MissingField = codes "a field is not there"
line_refusal_sentence WrongKind = codes "a field is not of its kind: a whole number up to 4294967295, a text, an array of texts, an object or an array of objects"
line_refusal_sentence BadName = codes "a text is no name"
line_refusal_sentence ExtraField = codes "there is a field that does not belong there"
line_refusal_sentence LineNoMemory = codes "no memory"

-- line 7: refused: the sender has sent no message of this number
abbrev pub refused_text : ℕ → List ℕ → List ℕ
refused_text line sentence = codes "line " ++ decimal line ++ codes ": refused: " ++ sentence ++ codes "\n"
