-- What a value stands for whose texts are lent: what `serde_json` reads of the same text.
use Rattle.std.specs.Prelude.{ℕ, Bool, true, ◌&&◌, List, [], ◌∷◌, Option, Some, None, is_some, option_and_then, if◌then◌else◌}
use Rattle.std.specs.Str.{is_utf8}
use Rattle.json.specs.Lex.{tokens}
use Rattle.json.specs.Json as json
use Rattle.json.specs.Value as lent
use Rattle.json.specs.declared.value.Value.{Value}
use Rattle.serde_json.specs.Data.{Num, Data, null, boolean, number, string, array, object, Items, no_items, item, Members, no_members, member, put}
use Rattle.serde_json.specs.Read.{number_of, max_depth, read}
use Rattle.std.specs.declared.alloc.Global.{Global}

-- a number, or nothing where the text of a number is too large to be one
abbrev pub number_or_null : Option Num → Data
number_or_null None = null
number_or_null (Some n) = number n

-- the value, of an object each key with its last value
abbrev mutual
  pub data_of : json.Json → Data
  data_of json.null = null
  data_of (json.boolean b) = boolean b
  data_of (json.number s) = number_or_null (number_of s)
  data_of (json.string s) = string s
  data_of (json.array js) = array (items_of js)
  data_of (json.object ms) = object (members_of ms no_members)

  pub items_of : json.Items → Items
  items_of json.no_items = no_items
  items_of (json.item j js) = item (data_of j) (items_of js)

  pub members_of : json.Members → Members → Members
  members_of json.no_members found = found
  members_of (json.member k j ms) found = members_of ms (put k (data_of j) found)

-- whether each text of a number is one
abbrev mutual
  pub is_in_range : json.Json → Bool
  is_in_range json.null = true
  is_in_range (json.boolean b) = true
  is_in_range (json.number s) = is_some (number_of s)
  is_in_range (json.string s) = true
  is_in_range (json.array js) = are_in_range js
  is_in_range (json.object ms) = members_in_range ms

  pub are_in_range : json.Items → Bool
  are_in_range json.no_items = true
  are_in_range (json.item j js) = is_in_range j && are_in_range js

  pub members_in_range : json.Members → Bool
  members_in_range json.no_members = true
  members_in_range (json.member k j ms) = is_in_range j && members_in_range ms

-- the value of the grammar that a text is, nested as deep as `serde_json` reads
abbrev pub document : List ℕ → Option json.Json
document text = option_and_then (λ p. json.if_last p.0 p.1) (json.value max_depth (tokens text))

-- the value of bytes that are UTF-8
abbrev pub json_of : List ℕ → Option Data
json_of text = if is_utf8 text then read text else None

abbrev pub Lent : Type 0
Lent = Value Global

-- what a value stands for, and what values in an array do
abbrev pub meaning : Lent → Data
meaning value = data_of (lent.value_view value)

abbrev pub items : List Lent → Items
items values = items_of (lent.items_view values)

-- the members of an object; none of another value
abbrev pub members_in : Data → Members
members_in null = no_members
members_in (boolean b) = no_members
members_in (number n) = no_members
members_in (string s) = no_members
members_in (array ds) = no_members
members_in (object ms) = ms

abbrev pub members : Lent → Members
members value = members_in (meaning value)

-- the keys of an object
abbrev pub keys_of : Members → List (List ℕ)
keys_of no_members = []
keys_of (member key value rest) = key ∷ keys_of rest
