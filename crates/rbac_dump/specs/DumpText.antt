-- A policy told as client lines, which make it again.
use Rattle.std.specs.Prelude.{◌≡◌, ℕ, List, map, Ok}
use Rattle.line_engine.specs.Lines.{lines}
use Rattle.rbac_terms.specs.State.{State}
use Rattle.rbac_dump.specs.Dump.{dump_of}
use Rattle.rbac_text.specs.Asked.{asked}
use Rattle.rbac_text.specs.Lines.{lines_text, room}

-- the lines of a dump
abbrev pub dump_text : State → List ℕ
dump_text s = lines_text (dump_of room s)

-- of one policy they ask for just the commands of the dump
abbrev pub IsReadBack : State → Type 0
IsReadBack s = map asked (lines (dump_text s)) ≡ map Ok (dump_of room s)
