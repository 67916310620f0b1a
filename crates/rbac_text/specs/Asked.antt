-- The command that a text asks for, of whoever has one policy: a client line's, or that of a command by itself.
use Rattle.std.specs.Prelude.{ℕ, List, Bool, is_some, if◌then◌else◌, codes, ok_or}
use Rattle.serde_json.specs.Data.{Members}
use Rattle.serde_json.specs.Find.{as_object, get_member}
use Rattle.rbac_terms.specs.declared.command.Command.{Command}
use Rattle.rbac_text.specs.declared.refusal.LineRefusal.TheVariants.{NotObject}
use Rattle.rbac_text.specs.Steps.{◌>>=◌, seen}
use Rattle.rbac_text.specs.Fields.{Reading}
use Rattle.rbac_text.specs.Command.{command_of}
use Rattle.rbac_text.specs.Client.{client_of}
use Rattle.rbac_text.specs.Value.{value_of}

-- an object is read as a client line where it has the key command
abbrev pub is_client_line : Members → Bool
is_client_line object = is_some (get_member (codes "command") object)

-- the command of a client line, whose member is read and of no other concern, or of an object that is a command
abbrev pub asked_of : Members → Reading Command
asked_of object = if is_client_line object then seen (λ line. line.1) (client_of object) else command_of object

-- the command that a text asks for, or the first refusal
unfoldable pub asked : List ℕ → Reading Command
asked text = do
  value ← value_of text
  object ← ok_or (as_object value) NotObject
  asked_of object
