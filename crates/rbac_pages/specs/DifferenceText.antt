-- What one policy has that another has not, by the lines of their dumps.
use Rattle.std.specs.Prelude.{List, ℕ, ◌++◌, Bool, not, codes}
use Rattle.std.specs.List.{flat_map, filter, list_any}
use Rattle.std.specs.Ordering.{eq_by_cmp, nat_cmp}
use Rattle.std.specs.Cmp.Lexicographic.{slice_cmp}
use Rattle.std.specs.declared.cmp.Ordering.{Ordering}
use Rattle.rbac_terms.specs.State.{State}
use Rattle.rbac_terms.specs.declared.command.Command.{Command}
use Rattle.rbac_dump.specs.Dump.{dump_of}
use Rattle.rbac_text.specs.Lines.{asking_line, room}

-- lines are ordered by bytes
abbrev pub line_cmp : List ℕ → List ℕ → Ordering
line_cmp = slice_cmp nat_cmp

-- it is the line of one of these commands
abbrev pub is_line_of : List Command → List ℕ → Bool
is_line_of commands line = list_any (λ command. eq_by_cmp line_cmp line (asking_line command)) commands

-- those of these commands whose line is none of the others'
abbrev pub only_in : List Command → List Command → List Command
only_in these others = filter (λ command. not (is_line_of others (asking_line command))) these

-- their lines, in order, each behind a mark
abbrev pub marked_text : List ℕ → List Command → List ℕ
marked_text mark commands = flat_map (λ command. mark ++ asking_line command) commands

-- - {"at":1,"command":{"name":"AddUser","user":"ann"}}
-- the lines that the dump of the first policy has and that of the second has not, and then, behind "+ ", those that only the second has
abbrev pub difference_text : State → State → List ℕ
difference_text from to =
    marked_text (codes "- ") (only_in (dump_of room from) (dump_of room to))
    ++ marked_text (codes "+ ") (only_in (dump_of room to) (dump_of room from))
