-- What is read of a JSON object's fields. Each word answers the value, or the first refusal: MissingField where the key is
-- not there, WrongKind where its value is of another kind, and for a name BadName where the text is no name.
-- The keys of an object stand in no order. Where a key was given twice, the object has the last value.
use Rattle.std.specs.Prelude.{ℕ, ◌^◌, Bool, true, ◌&&◌, List, [], ◌∷◌, is_some, nat_lt, if◌then◌else◌, Option, Some, None, ok_or, option_map, option_and_then, Result, Ok, Err, ⊤}
use Rattle.std.specs.Str.{bytes_eq}
use Rattle.std.specs.List.{list_all}
use Rattle.serde_json.specs.Data.{Data, Items, no_items, item, Members, no_members, member}
use Rattle.serde_json.specs.Find.{get_member, as_str, as_number, as_u64, as_array, as_object}
pub use Rattle.lent_json.specs.Data.{keys_of}
use Rattle.sorted_keys.specs.Keys.{set_of}
use Rattle.rbac_terms.specs.Name.{Name, is_name, name_cmp}
use Rattle.rbac_text.specs.Keys.{is_one_of}
use Rattle.rbac_text.specs.Steps.{◌>>=◌, ◌>>◌, provided, ReadsBut}
use Rattle.rbac_text.specs.declared.refusal.LineRefusal.{LineRefusal}
use Rattle.rbac_text.specs.declared.refusal.LineRefusal.TheVariants.{UnknownWord, MissingField, WrongKind, BadName, ExtraField, NoMemory}

-- ---- Steps of a reading

-- what is read, or the first refusal
abbrev pub Reading : Type 0 → Type 0
Reading T = Result T LineRefusal

-- what may be answered where this is to be read: just that, or that memory ran out
abbrev pub Reads : {T : Type 0} → Reading T → Reading T → Type 0
Reads expected answer = ReadsBut NoMemory expected answer

-- ---- One field

-- the value at a key
abbrev pub value_in : List ℕ → Members → Reading Data
value_in key object = ok_or (get_member key object) MissingField

-- a number of 32 bits
abbrev pub if_small : ℕ → Option ℕ
if_small n = if nat_lt n (2 ^ 32) then Some n else None

-- a whole number up to 4,294,967,295: not 1.0, nor a negative or a larger number
abbrev pub as_whole : Data → Option ℕ
as_whole value = option_and_then if_small (option_and_then as_u64 (as_number value))

-- the whole number at a key
abbrev pub whole_in : List ℕ → Members → Reading ℕ
whole_in key object = do
  value ← value_in key object
  ok_or (as_whole value) WrongKind

-- the text at a key
abbrev pub text_in : List ℕ → Members → Reading (List ℕ)
text_in key object = do
  value ← value_in key object
  ok_or (as_str value) WrongKind

-- the object at a key
abbrev pub object_in : List ℕ → Members → Reading Members
object_in key object = do
  value ← value_in key object
  ok_or (as_object value) WrongKind

-- the name that a text is
abbrev pub name_of : List ℕ → Reading Name
name_of text = if is_name text then Ok text else Err BadName

-- the name at a key
abbrev pub name_in : List ℕ → Members → Reading Name
name_in key object = do
  text ← text_in key object
  name_of text

-- ---- An array of names

-- the texts of an array that has nothing else
abbrev pub texts_of : Items → Option (List (List ℕ))
texts_of no_items = Some []
texts_of (item value rest) = option_and_then (λ text. option_map (λ texts. text ∷ texts) (texts_of rest)) (as_str value)

-- the set of the names in an array, where a name given twice counts once. An element that is no text is refused before
-- any text that is no name
abbrev pub names_of : Items → Reading (List Name)
names_of array = do
  texts ← ok_or (texts_of array) WrongKind
  if list_all is_name texts then Ok (set_of name_cmp texts) else Err BadName

-- the set of the names at a key
abbrev pub names_in : List ℕ → Members → Reading (List Name)
names_in key object = do
  value ← value_in key object
  array ← ok_or (as_array value) WrongKind
  names_of array

-- ---- An array of objects

-- whether all elements of an array are objects
abbrev pub are_objects : Items → Bool
are_objects no_items = true
are_objects (item value rest) = is_some (as_object value) && are_objects rest

-- an array of which each element is an object
abbrev pub objects_of : Items → Reading Items
objects_of array = do
  provided (are_objects array) WrongKind
  Ok array

-- such an array at a key
abbrev pub objects_in : List ℕ → Members → Reading Items
objects_in key object = do
  value ← value_in key object
  array ← ok_or (as_array value) WrongKind
  objects_of array

-- ---- The whole object

-- ExtraField where there is a key besides these
abbrev pub only_keys : List (List ℕ) → Members → Reading ⊤
only_keys keys object = if list_all (is_one_of keys) (keys_of object) then Ok tt else Err ExtraField

-- no word that is known
abbrev pub unknown : {T : Type 0} → List ℕ → Members → Reading T
unknown word object = Err UnknownWord

-- what the reader beside a word reads of an object, or where no word is this one, what the other reader does
abbrev pub by_word : {T : Type 0} → List (List ℕ × (Members → Reading T)) → (List ℕ → Members → Reading T) → List ℕ → Members → Reading T
by_word [] other word object = other word object
by_word (row ∷ rows) other word object = if bytes_eq word row.0 then row.1 object else by_word rows other word object
