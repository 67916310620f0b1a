-- Which founding a file stands for: a TOML document of a group's numbers, a vocabulary's lists and, in version 2, the kind of
-- the role hierarchy. A file is refused for the first check that fails, in the order in which they stand here; each of them is
-- made over the whole file.
use Rattle.std.specs.Prelude.{ℕ, ℤ, pos, negsuc, Bool, false, not, ◌&&◌, ◌||◌, nat_le, nat_lt, List, [], ◌∷◌, length, codes, if◌then◌else◌, Option, None, Some, is_some, unwrap_or, ok_or, option_map, option_and_then, Result, Ok, Err, ⊤}
use Rattle.std.specs.Str.{is_utf8}
use Rattle.std.specs.List.{list_all}
use Rattle.std.specs.Str.{bytes_eq}
use Rattle.toml.specs.Data.{Data, string, integer, Items, no_items, item, Members, no_members, member, get_member, as_str, as_integer, as_array}
use Rattle.toml.specs.Parse.{parse_document}
use Rattle.sorted_keys.specs.Keys.{set_of, repeats}
use Rattle.rbac_terms.specs.Limits.{most_operations, most_objects, most_permissions}
use Rattle.rbac_words.specs.Limits.{most_members, last_clock, most_sent}
use Rattle.rbac_terms.specs.Name.{Permission, is_name, name_cmp, pair_cmp}
use Rattle.rbac_terms.specs.Vocabulary.{Vocabulary, is_listed}
use Rattle.rbac_words.specs.Group.{Group}
use Rattle.rbac_text.specs.Keys.{is_one_of}
use Rattle.rbac_text.specs.Steps.{◌>>=◌, ◌>>◌, provided, ReadsBut}
use Rattle.rbac_founding.specs.declared.founding.Founding.{Founding}
use Rattle.rbac_terms.specs.declared.hierarchy_kind.HierarchyKind.{HierarchyKind}
use Rattle.rbac_terms.specs.declared.hierarchy_kind.HierarchyKind.TheVariants.{General, Limited}
use Rattle.rbac_founding.specs.declared.version.Version.{Version}
use Rattle.rbac_founding.specs.declared.version.Version.TheVariants.{First, Second}
use Rattle.rbac_founding.specs.declared.refusal.FoundingRefusal.{FoundingRefusal}
use Rattle.rbac_founding.specs.declared.refusal.FoundingRefusal.TheVariants.{TooLong, NotToml, BadVersion, UnknownKey, MissingKey, WrongKind, OutOfRange, BadName, Repeated, UnknownName, NoMemory}

-- what is read of a file, or the first refusal
abbrev pub Reading : Type 0 → Type 0
Reading T = Result T FoundingRefusal

-- what may be answered where this is to be read: just that, or that memory ran out
abbrev pub Reads : {T : Type 0} → Reading T → Reading T → Type 0
Reads expected answer = ReadsBut NoMemory expected answer

-- ---- The document

-- the most bytes that a file has
abbrev pub longest_file : ℕ
longest_file = 1048576

-- the document of a TOML text, which is UTF-8
abbrev pub toml_of : List ℕ → Option Members
toml_of text = if is_utf8 text then parse_document text else None

-- the document of a file
abbrev pub document_of : List ℕ → Reading Members
document_of file = if nat_lt longest_file (length file) then Err TooLong else ok_or (toml_of file) NotToml

-- ---- Its keys

-- the keys that each file has to have
abbrev pub common_keys : List (List ℕ)
common_keys = codes "members" ∷ codes "operations" ∷ codes "objects" ∷ codes "permissions" ∷ []

-- the keys that a file of a version has to have
abbrev pub needed_keys : Version → List (List ℕ)
needed_keys First = common_keys
needed_keys Second = codes "hierarchy" ∷ common_keys

-- all keys that it may have
abbrev pub known_keys : Version → List (List ℕ)
known_keys version = codes "version" ∷ codes "clock" ∷ codes "sent_limit" ∷ needed_keys version

-- the keys of a document
abbrev pub keys_of : Members → List (List ℕ)
keys_of no_members = []
keys_of (member key value rest) = key ∷ keys_of rest

-- whether it is this whole number
abbrev pub is_whole : ℕ → ℤ → Bool
is_whole n (pos m) = nat_le n m && nat_le m n
is_whole n (negsuc m) = false

-- the version of a document: 1 or 2
abbrev pub version_of : Members → Reading Version
version_of document =
    let number : ℤ = unwrap_or (option_and_then as_integer (get_member (codes "version") document)) (pos 0) in
    if is_whole 1 number then Ok First else (if is_whole 2 number then Ok Second else Err BadVersion)

abbrev pub has_only : List (List ℕ) → Members → Bool
has_only keys document = list_all (is_one_of keys) (keys_of document)

abbrev pub has_all : List (List ℕ) → Members → Bool
has_all keys document = list_all (λ key. is_some (get_member key document)) keys

-- a document has none but the known keys, and all needed ones
abbrev pub keys_within : List (List ℕ) → List (List ℕ) → Members → Reading ⊤
keys_within known needed document = do
  provided (has_only known document) UnknownKey
  provided (has_all needed document) MissingKey

-- the checks of the keys
abbrev pub right_keys : Members → Reading ⊤
right_keys document = do
  version ← version_of document
  keys_within (known_keys version) (needed_keys version) document

-- ---- What stands at the keys

-- the whole number at a key
abbrev pub whole_at : List ℕ → Members → Reading ℤ
whole_at key document = ok_or (option_and_then as_integer (get_member key document)) WrongKind

-- the whole number at a key, or this one where the key is absent
abbrev pub whole_or : ℤ → List ℕ → Members → Reading ℤ
whole_or absent key document = ok_or (as_integer (unwrap_or (get_member key document) (integer absent))) WrongKind

-- the text at a key, or this one where the key is absent
abbrev pub text_or : List ℕ → List ℕ → Members → Reading (List ℕ)
text_or absent key document = ok_or (as_str (unwrap_or (get_member key document) (string absent))) WrongKind

-- the elements of an array of which each is of this kind
abbrev pub each : {T : Type 0} → (Data → Option T) → Items → Option (List T)
each kind no_items = Some []
each kind (item value rest) = option_and_then (λ first. option_map (λ others. first ∷ others) (each kind rest)) (kind value)

-- an array of texts
abbrev pub as_texts : Data → Option (List (List ℕ))
as_texts value = option_and_then (each as_str) (as_array value)

-- two texts, and no more
abbrev pub two : List (List ℕ) → Option Permission
two (operation ∷ object ∷ []) = Some (operation, object)
two others = None

-- an array of exactly two texts: an operation and an object
abbrev pub as_permission : Data → Option Permission
as_permission value = option_and_then two (as_texts value)

-- an array of such pairs
abbrev pub as_permissions : Data → Option (List Permission)
as_permissions value = option_and_then (each as_permission) (as_array value)

-- the array at a key
abbrev pub array_at : {T : Type 0} → (Data → Option T) → List ℕ → Members → Reading T
array_at kind key document = ok_or (option_and_then kind (get_member key document)) WrongKind

-- what stands at the keys, each value of its kind
pub record Entries : Type 0 where
  pub members : ℤ
  pub clock : ℤ
  pub sent_limit : ℤ
  pub operations : List (List ℕ)
  pub objects : List (List ℕ)
  pub permissions : List Permission
  pub hierarchy : List ℕ

-- the entries of a document: where they are absent the clock is 0, the limit is the largest one, and the hierarchy is general
abbrev pub entries_of : Members → Reading Entries
entries_of document = do
  members ← whole_at (codes "members") document
  clock ← whole_or (pos 0) (codes "clock") document
  sent_limit ← whole_or (pos most_sent) (codes "sent_limit") document
  operations ← array_at as_texts (codes "operations") document
  objects ← array_at as_texts (codes "objects") document
  permissions ← array_at as_permissions (codes "permissions") document
  hierarchy ← text_or (codes "general") (codes "hierarchy") document
  Ok (record { members = members; clock = clock; sent_limit = sent_limit; operations = operations; objects = objects; permissions = permissions; hierarchy = hierarchy })

-- ---- Whether they are in range

-- the number, if it is one of these
abbrev pub in_range : ℕ → ℕ → ℤ → Reading ℕ
in_range least most (pos n) = if nat_le least n && nat_le n most then Ok n else Err OutOfRange
in_range least most (negsuc n) = Err OutOfRange

-- whether the lists are within their limits
abbrev pub are_few : Entries → Bool
are_few entries =
    nat_le (length entries.operations) most_operations
    && nat_le (length entries.objects) most_objects
    && nat_le (length entries.permissions) most_permissions

-- the group, where all numbers and all lists are in range
abbrev pub group_of : Entries → Reading Group
group_of entries = do
  members ← in_range 1 most_members entries.members
  clock ← in_range 0 last_clock entries.clock
  sent_limit ← in_range 1 most_sent entries.sent_limit
  provided (are_few entries) OutOfRange
  Ok (record { members = members; clock = clock; sent_limit = sent_limit })

-- the kind of hierarchy that a word stands for
abbrev pub kind_of : List ℕ → Reading HierarchyKind
kind_of word =
    if bytes_eq word (codes "general") then Ok General
    else (if bytes_eq word (codes "limited") then Ok Limited else Err OutOfRange)

-- ---- Whether they make a vocabulary

-- whether all texts are names
abbrev pub are_names : Entries → Bool
are_names entries =
    list_all is_name entries.operations
    && list_all is_name entries.objects
    && list_all (λ permission. is_name permission.0 && is_name permission.1) entries.permissions

-- whether something stands twice
abbrev pub has_repeats : Entries → Bool
has_repeats entries = repeats name_cmp entries.operations || repeats name_cmp entries.objects || repeats pair_cmp entries.permissions

-- whether each permission speaks of operations and objects of the file
abbrev pub are_listed : Entries → Bool
are_listed entries = list_all (is_listed entries.operations entries.objects) entries.permissions

-- the vocabulary, with this kind of hierarchy
abbrev pub vocabulary_of : HierarchyKind → Entries → Reading Vocabulary
vocabulary_of kind entries = do
  provided (are_names entries) BadName
  provided (not (has_repeats entries)) Repeated
  provided (are_listed entries) UnknownName
  Ok (record {
    operations = set_of name_cmp entries.operations;
    objects = set_of name_cmp entries.objects;
    permissions = set_of pair_cmp entries.permissions;
    hierarchy = kind;
  })

-- ---- The whole

-- the founding that a file stands for, or the first refusal: TooLong and NotToml; BadVersion, UnknownKey and MissingKey;
-- WrongKind; OutOfRange; BadName, Repeated and UnknownName
unfoldable pub founding_of : List ℕ → Reading Founding
founding_of file = do
  document ← document_of file
  right_keys document
  entries ← entries_of document
  group ← group_of entries
  kind ← kind_of entries.hierarchy
  vocabulary ← vocabulary_of kind entries
  Ok (record { group = group; vocabulary = vocabulary })

-- ---- The word of a refusal

abbrev pub founding_refusal_word : FoundingRefusal → List ℕ
founding_refusal_word TooLong = codes "TooLong"
founding_refusal_word NotToml = codes "NotToml"
founding_refusal_word BadVersion = codes "BadVersion"
founding_refusal_word UnknownKey = codes "UnknownKey"
founding_refusal_word MissingKey = codes "MissingKey"
founding_refusal_word WrongKind = codes "WrongKind"
founding_refusal_word OutOfRange = codes "OutOfRange"
founding_refusal_word BadName = codes "BadName"
founding_refusal_word Repeated = codes "Repeated"
founding_refusal_word UnknownName = codes "UnknownName"
founding_refusal_word NoMemory = codes "NoMemory"
