-- What a contract sees of a command that is shared.
use Rattle.std.specs.Prelude.{ℕ, List, [], ◌∷◌, get_or}
use Rattle.rbac_terms.specs.declared.command.Command.{Command}
use Rattle.rbac_terms.specs.declared.command.Command.TheVariants.{AddUser}
use Rattle.rbac_words.specs.declared.shared_command.Together.{Together}
use Rattle.rbac_words.specs.declared.shared_command.Together.TheVariants.{One, Several}

-- commands that are submitted together
abbrev pub commands_in : Together → List Command
commands_in (One command) = command ∷ []
commands_in (Several commands) = commands.items

-- the command at a place; past the end, where none is asked for, some command
abbrev pub command_at : List Command → ℕ → Command
command_at commands place = get_or commands place (AddUser [])
