-- Commands told as the client lines by which they are asked.
use Rattle.std.specs.Prelude.{◌≡◌, ℕ, List, ◌++◌, Bool, IsTrue, not, Ok, codes}
use Rattle.std.specs.List.{flat_map, list_all}
use Rattle.line_engine.specs.Lines.{is_line_feed}
use Rattle.rbac_terms.specs.declared.command.Command.{Command}
use Rattle.rbac_text.specs.CommandText.{command_text}
use Rattle.rbac_text.specs.Client.{client}

-- what stands in the line before the command, and after it
abbrev pub begin : List ℕ
begin = codes "{\"at\":1,\"command\":"

abbrev pub end : List ℕ
end = codes "}"

-- {"at":1,"command":{"name":"AddUser","user":"ann"}}: member 1 is asked the command. Each group has that member
abbrev pub asking : Command → List ℕ
asking command = begin ++ command_text command ++ end

-- the same with its line feed
abbrev pub asking_line : Command → List ℕ
asking_line command = asking command ++ codes "\n"

-- the lines of these commands, in order
abbrev pub lines_text : List Command → List ℕ
lines_text commands = flat_map asking_line commands

-- the room that there is for the text of a command in such a line: 65,536 bytes but for the 19 round it
abbrev pub room : ℕ
room = 65517

-- no line feed
abbrev pub is_no_feed : ℕ → Bool
is_no_feed byte = not (is_line_feed byte)

-- the line is one line, and what is read of it is just that: member 1 is asked the command
abbrev pub IsAsked : Command → Type 0
IsAsked command = (client (asking command) ≡ Ok (1, command)) × IsTrue (list_all is_no_feed (asking command))
