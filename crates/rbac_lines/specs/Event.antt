-- What event a line stands for. A line is refused for the first of these: it is too long, it is no JSON, it is no object;
-- then its object is checked whole: its word, the fields that belong to that from left to right, and no other key; and
-- only then is the command object of a submit looked into, in the same way, or those of a batch, one after the other.
use Rattle.std.specs.Prelude.{ℕ, List, [], ◌∷◌, codes, ok_or, Ok}
use Rattle.serde_json.specs.Data.{Members}
use Rattle.serde_json.specs.Find.{as_object}
use Rattle.rbac_words.specs.declared.event.Event.{Event}
use Rattle.rbac_words.specs.declared.event.Event.TheVariants.{Submit, SubmitBatch, Receive, Deliver}
use Rattle.rbac_text.specs.declared.refusal.LineRefusal.TheVariants.{NotObject}
use Rattle.rbac_text.specs.Steps.{◌>>=◌, ◌>>◌}
use Rattle.rbac_text.specs.Fields.{Reading, whole_in, text_in, object_in, objects_in, only_keys, by_word, unknown}
use Rattle.rbac_text.specs.Command.{command_of}
use Rattle.rbac_text.specs.CommandArray.{commands_of}
use Rattle.rbac_text.specs.Value.{value_of}

-- submit: at, caller, serial, and the object command
abbrev pub submit : Members → Reading Event
submit object = do
  at ← whole_in (codes "at") object
  caller ← whole_in (codes "caller") object
  serial ← whole_in (codes "serial") object
  fields ← object_in (codes "command") object
  only_keys (codes "do" ∷ codes "at" ∷ codes "caller" ∷ codes "serial" ∷ codes "command" ∷ []) object
  command ← command_of fields
  Ok (Submit at caller serial command)

-- batch: at, caller, serial, and the array commands, of objects
abbrev pub batch : Members → Reading Event
batch object = do
  at ← whole_in (codes "at") object
  caller ← whole_in (codes "caller") object
  serial ← whole_in (codes "serial") object
  array ← objects_in (codes "commands") object
  only_keys (codes "do" ∷ codes "at" ∷ codes "caller" ∷ codes "serial" ∷ codes "commands" ∷ []) object
  commands ← commands_of array
  Ok (SubmitBatch at caller serial commands)

-- receive: at, from, number
abbrev pub receive : Members → Reading Event
receive object = do
  at ← whole_in (codes "at") object
  from ← whole_in (codes "from") object
  number ← whole_in (codes "number") object
  only_keys (codes "do" ∷ codes "at" ∷ codes "from" ∷ codes "number" ∷ []) object
  Ok (Receive at from number)

-- deliver: at
abbrev pub deliver : Members → Reading Event
deliver object = do
  at ← whole_in (codes "at") object
  only_keys (codes "do" ∷ codes "at" ∷ []) object
  Ok (Deliver at)

-- the events by their words
abbrev pub events : List (List ℕ × (Members → Reading Event))
events =
    (codes "submit", submit)
    ∷ (codes "batch", batch)
    ∷ (codes "receive", receive)
    ∷ (codes "deliver", deliver)
    ∷ []

-- the event that an object stands for
abbrev pub event_of : Members → Reading Event
event_of object = do
  word ← text_in (codes "do") object
  by_word events unknown word object

-- the event that a line stands for, or the first refusal
unfoldable pub event : List ℕ → Reading Event
event line = do
  value ← value_of line
  object ← ok_or (as_object value) NotObject
  event_of object
