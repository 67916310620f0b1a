-- The commands that an array of JSON stands for.
use Rattle.std.specs.Prelude.{List, [], ◌∷◌, ok_or, Ok}
use Rattle.serde_json.specs.Data.{Data, Items, no_items, item}
use Rattle.serde_json.specs.Find.{as_object}
use Rattle.rbac_terms.specs.declared.command.Command.{Command}
use Rattle.rbac_text.specs.declared.refusal.LineRefusal.TheVariants.{WrongKind}
use Rattle.rbac_text.specs.Steps.{◌>>=◌}
use Rattle.rbac_text.specs.Fields.{Reading}
use Rattle.rbac_text.specs.Command.{command_of}

-- the command that an element of an array stands for
abbrev pub command_in : Data → Reading Command
command_in value = do
  fields ← ok_or (as_object value) WrongKind
  command_of fields

-- the commands that the elements stand for, one after the other
abbrev pub commands_of : Items → Reading (List Command)
commands_of no_items = Ok []
commands_of (item value rest) = do
  command ← command_in value
  commands ← commands_of rest
  Ok (command ∷ commands)
