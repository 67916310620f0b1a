-- The command that the text of a JSON object stands for, without a line round it. It is refused for the same reasons and in
-- the same order as the command of a client line.
use Rattle.std.specs.Prelude.{ℕ, List, ok_or}
use Rattle.serde_json.specs.Find.{as_object}
use Rattle.rbac_terms.specs.declared.command.Command.{Command}
use Rattle.rbac_text.specs.declared.refusal.LineRefusal.TheVariants.{NotObject}
use Rattle.rbac_text.specs.Steps.{◌>>=◌}
use Rattle.rbac_text.specs.Fields.{Reading}
use Rattle.rbac_text.specs.Command.{command_of}
use Rattle.rbac_text.specs.Value.{value_of}

-- the command of a text, or the first refusal
unfoldable pub command : List ℕ → Reading Command
command text = do
  value ← value_of text
  object ← ok_or (as_object value) NotObject
  command_of object
