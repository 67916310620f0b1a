-- What a line asks of a member. It is refused for the first of these: it is too long, it is no JSON, it is no object; then its object is
-- checked whole: its word, the fields that belong to that from left to right, and no other key; and only then are commands and messages
-- looked into, in the same way.
use Rattle.std.specs.Prelude.{ℕ, ⊤, List, [], ◌∷◌, codes, ok_or, Ok}
use Rattle.serde_json.specs.Data.{Members}
use Rattle.serde_json.specs.Find.{as_object}
use Rattle.rbac_text.specs.declared.refusal.LineRefusal.TheVariants.{NotObject}
use Rattle.rbac_text.specs.Steps.{◌>>=◌, ◌>>◌}
use Rattle.rbac_text.specs.Fields.{Reading, whole_in, text_in, object_in, objects_in, only_keys, by_word, unknown}
use Rattle.rbac_text.specs.Command.{command_of}
use Rattle.rbac_text.specs.CommandArray.{commands_of}
use Rattle.rbac_text.specs.Value.{value_of}
use Rattle.rbac_message_text.specs.Message.{message_of}
use Rattle.rbac_member_lines.specs.declared.asked.Submission.{Submission}
use Rattle.rbac_member_lines.specs.declared.asked.Brought.{Brought}
use Rattle.rbac_member_lines.specs.declared.asked.Asked.{Asked}
use Rattle.rbac_member_lines.specs.declared.asked.Asked.TheVariants.{Submit, Receive, Own, Deliver, Tell}
use Rattle.rbac_member_lines.specs.declared.asked.Question.TheVariants.{Next, Answer, Message, Record, Waits, Dump}

-- caller, serial, and the object command
abbrev pub one_submitted : Members → Reading Submission
one_submitted object = do
  caller ← whole_in (codes "caller") object
  serial ← whole_in (codes "serial") object
  fields ← object_in (codes "command") object
  only_keys (codes "do" ∷ codes "caller" ∷ codes "serial" ∷ codes "command" ∷ []) object
  command ← command_of fields
  Ok (record { caller = caller; serial = serial; commands = command ∷ [] })

-- caller, serial, and the array commands, of objects
abbrev pub all_submitted : Members → Reading Submission
all_submitted object = do
  caller ← whole_in (codes "caller") object
  serial ← whole_in (codes "serial") object
  array ← objects_in (codes "commands") object
  only_keys (codes "do" ∷ codes "caller" ∷ codes "serial" ∷ codes "commands" ∷ []) object
  commands ← commands_of array
  Ok (record { caller = caller; serial = serial; commands = commands })

-- from, number, and the object message
abbrev pub brought : Members → Reading Brought
brought object = do
  from ← whole_in (codes "from") object
  number ← whole_in (codes "number") object
  fields ← object_in (codes "message") object
  only_keys (codes "do" ∷ codes "from" ∷ codes "number" ∷ codes "message" ∷ []) object
  message ← message_of fields
  Ok (record { from = from; number = number; message = message })

-- number alone
abbrev pub numbered : Members → Reading ℕ
numbered object = do
  number ← whole_in (codes "number") object
  only_keys (codes "do" ∷ codes "number" ∷ []) object
  Ok number

abbrev pub submit : Members → Reading Asked
submit object = do
  submission ← one_submitted object
  Ok (Submit submission)

abbrev pub batch : Members → Reading Asked
batch object = do
  submission ← all_submitted object
  Ok (Submit submission)

abbrev pub next : Members → Reading Asked
next object = do
  submission ← all_submitted object
  Ok (Tell (Next submission))

abbrev pub receive : Members → Reading Asked
receive object = do
  one ← brought object
  Ok (Receive one)

abbrev pub answer : Members → Reading Asked
answer object = do
  one ← brought object
  Ok (Tell (Answer one))

-- own: number, and the object message
abbrev pub own : Members → Reading Asked
own object = do
  number ← whole_in (codes "number") object
  fields ← object_in (codes "message") object
  only_keys (codes "do" ∷ codes "number" ∷ codes "message" ∷ []) object
  message ← message_of fields
  Ok (Own number message)

abbrev pub sent_message : Members → Reading Asked
sent_message object = do
  number ← numbered object
  Ok (Tell (Message number))

abbrev pub delivered_record : Members → Reading Asked
delivered_record object = do
  number ← numbered object
  Ok (Tell (Record number))

-- deliver, waits, dump: nothing more
abbrev pub alone : Members → Reading ⊤
alone object = only_keys (codes "do" ∷ []) object

abbrev pub deliver : Members → Reading Asked
deliver object = do
  alone object
  Ok Deliver

abbrev pub waits : Members → Reading Asked
waits object = do
  alone object
  Ok (Tell Waits)

abbrev pub dump : Members → Reading Asked
dump object = do
  alone object
  Ok (Tell Dump)

-- what is asked, by its word
abbrev pub words : List (List ℕ × (Members → Reading Asked))
words =
    (codes "submit", submit)
    ∷ (codes "batch", batch)
    ∷ (codes "receive", receive)
    ∷ (codes "own", own)
    ∷ (codes "deliver", deliver)
    ∷ (codes "next", next)
    ∷ (codes "answer", answer)
    ∷ (codes "message", sent_message)
    ∷ (codes "record", delivered_record)
    ∷ (codes "waits", waits)
    ∷ (codes "dump", dump)
    ∷ []

-- what an object asks
abbrev pub asked_of : Members → Reading Asked
asked_of object = do
  word ← text_in (codes "do") object
  by_word words unknown word object

-- what a line asks, or the first refusal
unfoldable pub asked : List ℕ → Reading Asked
asked line = do
  value ← value_of line
  object ← ok_or (as_object value) NotObject
  asked_of object
