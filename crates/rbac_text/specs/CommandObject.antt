-- The JSON object that the text of a command reads as. The keys of an object are in the order of their bytes.
use Rattle.std.specs.Prelude.{List, [], ◌∷◌, codes}
use Rattle.serde_json.specs.Data.{Data, string, array, number, unsigned, Items, no_items, item, Members, no_members, put}
use Rattle.rbac_terms.specs.Name.{Name}
use Rattle.rbac_terms.specs.declared.command.Command.{Command}
use Rattle.rbac_text.specs.Command.{Field, Fields, one_name, some_names, whole, command_word, command_fields}

-- an array of texts
abbrev pub items_of : List Name → Items
items_of [] = no_items
items_of (name ∷ names) = item (string name) (items_of names)

-- what a field is in JSON
abbrev pub value_of : Field → Data
value_of (one_name name) = string name
value_of (some_names names) = array (items_of names)
value_of (whole n) = number (unsigned n)

-- the members with these fields put in, from left to right
abbrev pub with_fields : Fields → Members → Members
with_fields [] members = members
with_fields (field ∷ fields) members = with_fields fields (put field.0 (value_of field.1) members)

-- the command's name at the key name, and its fields
abbrev pub command_object : Command → Members
command_object command = with_fields (command_fields command) (put (codes "name") (string (command_word command)) no_members)
