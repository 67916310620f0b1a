-- What message a text stands for. It is refused for the first of these: it is too long, it is no JSON, it is no object; then its
-- object is checked whole, the fields from left to right, and no other key; and only then its commands are looked into, one
-- after the other. An object that has the key commands is a batch, and any other one an acknowledgement.
use Rattle.std.specs.Prelude.{ℕ, List, [], ◌∷◌, codes, is_some, if◌then◌else◌, Option, Some, None, ok_or, option_and_then, Ok}
use Rattle.serde_json.specs.Data.{Data, Items, no_items, item, Members}
use Rattle.serde_json.specs.Find.{get_member, as_array, as_number, as_object, as_u64}
use Rattle.rbac_terms.specs.declared.command.Command.{Command}
use Rattle.rbac_words.specs.declared.stamp.Stamp.{Stamp}
use Rattle.rbac_words.specs.declared.message.Message.{Message}
use Rattle.rbac_words.specs.declared.message.Message.TheVariants.{Batch, Ack}
use Rattle.rbac_text.specs.declared.refusal.LineRefusal.TheVariants.{NotObject, WrongKind}
use Rattle.rbac_text.specs.Steps.{◌>>=◌, ◌>>◌}
use Rattle.rbac_text.specs.Fields.{Reading, value_in, whole_in, as_whole, objects_in, objects_of, only_keys}
use Rattle.rbac_text.specs.CommandArray.{commands_of}
use Rattle.rbac_text.specs.Value.{value_within}
use Rattle.rbac_message_text.specs.MessageText.{longest_message}

-- the two elements of an array that has two
abbrev pub two_of : Items → Option (Data × Data)
two_of no_items = None
two_of (item first no_items) = None
two_of (item first (item second no_items)) = Some (first, second)
two_of (item first (item second (item third rest))) = None

-- a whole number of 64 bits
abbrev pub as_clock : Data → Option ℕ
as_clock value = option_and_then as_u64 (as_number value)

-- the stamp of a message at a key: an array of its clock and its member
abbrev pub stamp_in : List ℕ → Members → Reading Stamp
stamp_in key object = do
  value ← value_in key object
  array ← ok_or (as_array value) WrongKind
  both ← ok_or (two_of array) WrongKind
  clock ← ok_or (as_clock both.0) WrongKind
  member ← ok_or (as_whole both.1) WrongKind
  Ok (record { clock = clock; member = member; place = 0 })

-- an acknowledgement: stamp
abbrev pub acknowledgement_of : Members → Reading Message
acknowledgement_of object = do
  stamp ← stamp_in (codes "stamp") object
  only_keys (codes "stamp" ∷ []) object
  Ok (Ack stamp)

-- a batch: caller, the array commands, of objects, serial, and stamp
abbrev pub batch_of : Members → Reading Message
batch_of object = do
  caller ← whole_in (codes "caller") object
  array ← objects_in (codes "commands") object
  serial ← whole_in (codes "serial") object
  stamp ← stamp_in (codes "stamp") object
  only_keys (codes "caller" ∷ codes "commands" ∷ codes "serial" ∷ codes "stamp" ∷ []) object
  commands ← commands_of array
  Ok (Batch stamp caller serial commands)

-- the message that an object stands for
abbrev pub message_of : Members → Reading Message
message_of object = if is_some (get_member (codes "commands") object) then batch_of object else acknowledgement_of object

-- the message of a text, or the first refusal
unfoldable pub message_read : List ℕ → Reading Message
message_read text = do
  value ← value_within longest_message text
  object ← ok_or (as_object value) NotObject
  message_of object

-- the commands of a text, which is an array of objects, or the first refusal
unfoldable pub commands_read : List ℕ → Reading (List Command)
commands_read text = do
  value ← value_within longest_message text
  array ← ok_or (as_array value) WrongKind
  objects ← objects_of array
  commands_of objects
