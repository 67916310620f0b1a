-- The JSON value that a line, or a text of its own, stands for.
use Rattle.std.specs.Prelude.{ℕ, List, length, nat_lt, if◌then◌else◌, Option, None, ok_or, Err}
use Rattle.std.specs.Str.{is_utf8}
use Rattle.serde_json.specs.Data.{Data}
use Rattle.serde_json.specs.Read.{read}
use Rattle.line_engine.specs.Lines.{longest_line}
use Rattle.rbac_text.specs.declared.refusal.LineRefusal.TheVariants.{TooLong, NotJson}
use Rattle.rbac_text.specs.Fields.{Reading}

-- the value of a JSON text, which is UTF-8
abbrev pub json_of : List ℕ → Option Data
json_of text = if is_utf8 text then read text else None

-- the value of a text that may have so many bytes
abbrev pub value_within : ℕ → List ℕ → Reading Data
value_within longest text = if nat_lt longest (length text) then Err TooLong else ok_or (json_of text) NotJson

-- the value of a line
abbrev pub value_of : List ℕ → Reading Data
value_of line = value_within longest_line line
