-- What a client line asks for: a command, of a member. It is refused for the same reasons and in the same order as a line
-- that stands for an event; its object has no word, and no key but at and command.
use Rattle.std.specs.Prelude.{ℕ, List, [], ◌∷◌, codes, ok_or, Ok}
use Rattle.serde_json.specs.Data.{Members}
use Rattle.serde_json.specs.Find.{as_object}
use Rattle.rbac_terms.specs.declared.command.Command.{Command}
use Rattle.rbac_text.specs.declared.refusal.LineRefusal.TheVariants.{NotObject}
use Rattle.rbac_text.specs.Steps.{◌>>=◌, ◌>>◌}
use Rattle.rbac_text.specs.Fields.{Reading, whole_in, object_in, only_keys}
use Rattle.rbac_text.specs.Command.{command_of}
use Rattle.rbac_text.specs.Value.{value_of}

-- at, and the object command
abbrev pub client_of : Members → Reading (ℕ × Command)
client_of object = do
  at ← whole_in (codes "at") object
  fields ← object_in (codes "command") object
  only_keys (codes "at" ∷ codes "command" ∷ []) object
  command ← command_of fields
  Ok (at, command)

-- the member and the command that a line asks for, or the first refusal
unfoldable pub client : List ℕ → Reading (ℕ × Command)
client line = do
  value ← value_of line
  object ← ok_or (as_object value) NotObject
  client_of object
