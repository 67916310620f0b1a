-- The text of a command: a compact JSON object, its name first, and then its fields in the order in which they are read.
use Rattle.std.specs.Prelude.{ℕ, ◌^◌, ◌<◌, List, ◌++◌, codes, decimal, IsTrue}
use Rattle.std.specs.List.{flat_map, list_all, AllByRecursion as Each}
use Rattle.std.specs.List.Sorted.{IsStrictlySortedBy}
use Rattle.rbac_terms.specs.Name.{is_name, name_cmp}
use Rattle.rbac_terms.specs.declared.command.Command.{Command}
use Rattle.rbac_text.specs.Command.{Field, Fields, one_name, some_names, whole, command_word, command_fields}
use Rattle.rbac_text.specs.Pieces.{in_quotes, array_text}

-- "ann", ["boss","payer"], 2
abbrev pub value_text : Field → List ℕ
value_text (one_name name) = in_quotes name
value_text (some_names names) = array_text in_quotes names
value_text (whole n) = decimal n

-- ,"user":"ann"
abbrev pub field_text : List ℕ × Field → List ℕ
field_text field = codes ",\"" ++ field.0 ++ codes "\":" ++ value_text field.1

-- {"name":"AddUser","user":"ann"}
abbrev pub object_text : List ℕ → Fields → List ℕ
object_text word fields = codes "{\"name\":\"" ++ word ++ codes "\"" ++ flat_map field_text fields ++ codes "}"

abbrev pub command_text : Command → List ℕ
command_text command = object_text (command_word command) (command_fields command)

-- [{"name":"AddUser","user":"ann"}]
abbrev pub commands_text : List Command → List ℕ
commands_text commands = array_text command_text commands

-- ---- What a field has to be, so that a reader takes it: names, a set of names, a number of 32 bits

abbrev pub IsField : List ℕ × Field → Type 0
IsField (key, one_name name) = IsTrue (is_name name)
IsField (key, some_names names) = IsTrue (list_all is_name names) × IsStrictlySortedBy name_cmp names
IsField (key, whole n) = n < 2 ^ 32

abbrev pub AreFields : Fields → Type 0
AreFields fields = Each IsField fields
