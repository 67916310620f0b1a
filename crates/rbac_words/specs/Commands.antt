-- What a contract sees of the commands of a message.
use Rattle.std.specs.Prelude.{List, [], ◌∷◌}
use Rattle.rbac_terms.specs.declared.command.Command.{Command}
use Rattle.rbac_words.specs.Shared.{commands_in}
use Rattle.rbac_words.specs.declared.commands.Kept.{Kept}
use Rattle.rbac_words.specs.declared.commands.Kept.TheVariants.{Alone, All}

-- the commands of a message
abbrev pub commands_of_message : Kept → List Command
commands_of_message (Alone command) = command ∷ []
commands_of_message (All together) = commands_in together.value
