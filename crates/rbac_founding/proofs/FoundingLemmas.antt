-- Reading a founding file.
use Rattle.std.proofs.Common.{◌≡◌, ◌≢◌, ◌&&◌, ◌++◌, ◌+◌, ◌<◌, ◌≤◌, ℕ, List, [], ◌∷◌, length, map, take, drop, get_or, Bool, true, false, Option, None, Some, Result, Ok, Err, is_some, option_map, option_and_then, unwrap_or, if◌then◌else◌, String, Global, string_bytes, Bor, IsUtf8, append_assoc, refl, sym, ap, ◌∙◌}
use Rattle.std.specs.List.{list_all, list_any}
use Rattle.std.specs.Map.{keys_of as entry_keys}
use Rattle.std.specs.Option.{ok_or}
use Rattle.std.specs.Str.{bytes_eq}
use Rattle.std.proofs.lemmas.List.{at_drop_more, at_drop_all}
use Rattle.toml.specs.Data.{Data, Items, Members, as_array, as_str}
use Rattle.toml.specs.Parse.{parse_document}
use Rattle.toml.specs.View.{view, items_view, members_view}
use Rattle.toml.specs.declared.value.Value.{Value}
use Rattle.rbac_text.specs.Steps.{◌>>=◌, ◌>>◌, provided, seen}
use Rattle.rbac_founding.specs.FoundingFile.{Reading, document_of, founding_of, longest_file, version_of, known_keys, needed_keys, has_only, has_all, keys_within, right_keys, each, two, as_permission}
use Rattle.rbac_founding.specs.declared.version.Version.{Version}
use Rattle.rbac_founding.specs.declared.refusal.FoundingRefusal.{FoundingRefusal}
use Rattle.rbac_founding.specs.declared.refusal.FoundingRefusal.TheVariants.{TooLong, NotToml, UnknownKey, MissingKey, WrongKind, BadName}
use Rattle.rbac_founding.proofs.LongLemmas.{front_value}
use Rattle.std.proofs.lemmas.Bool.{lt-ltb, le-ltb}
use Rattle.rbac_text.proofs.ReadingLemmas.{list_any-map, of_kind_more}
use Rattle.rbac_text.proofs.Utf8Lemmas.{parsed, not_parsed}

-- ---- The document

pub document_of_toml : (file : List ℕ) (document : Members) → length file ≤ longest_file → IsUtf8 file → parse_document file ≡ Some document → document_of file ≡ Ok document
document_of_toml file document short utf8 is = rw (le-ltb longest_file (length file) short, parsed parse_document file document utf8 is) refl

pub document_of_other : (file : List ℕ) → length file ≤ longest_file → (IsUtf8 file → parse_document file ≡ None) → document_of file ≡ Err NotToml
document_of_other file short none = rw (le-ltb longest_file (length file) short, not_parsed parse_document file none) refl

founding_long : (file : List ℕ) → longest_file < length file → founding_of file ≡ Err TooLong
unfolding founding_of
founding_long file long = let too_long : document_of file ≡ Err TooLong = rw (lt-ltb longest_file (length file) long) refl in rw too_long refl

-- one byte more than a file may have shows that it is too long
pub founding_of_front : (file : List ℕ) → founding_of (take (longest_file + 1) file) ≡ founding_of file
founding_of_front file = front_value founding_of (Err TooLong) longest_file founding_long file

-- ---- Its keys

-- whether a document has no key but these
pub has_only_keys : (keys : List (Bor (List ℕ))) (entries : List (String Global × Value))
    → list_all (λ key. list_any (λ known. bytes_eq (string_bytes key) known.now) keys) (entry_keys entries) ≡ has_only (map (λ known. known.now) keys) (members_view entries)
has_only_keys keys [] = refl
has_only_keys keys (e ∷ es) = rw (list_any-map (bytes_eq (string_bytes e.0)) (λ known. known.now) keys, has_only_keys keys es)

-- where no key is too much, the needed ones decide
pub needed_told : (known needed : List (List ℕ)) (document : Members) (b : Bool) → provided (has_only known document) UnknownKey ≡ Ok tt → has_all needed document ≡ b
    → keys_within known needed document ≡ provided b MissingKey
needed_told known needed document b only is =
    ap (λ r. r >> provided (has_all needed document) MissingKey) only ∙ ap (λ all. provided all MissingKey) is

-- the keys are those of the version
pub of_version : (document : Members) (read version : Version) → Ok read ≡ version_of document → read ≡ version → keys_within (known_keys version) (needed_keys version) document ≡ right_keys document
of_version document read version told is =
    ap (λ v. keys_within (known_keys v) (needed_keys v) document) (sym is)
    ∙ ap (λ r. r >>= λ v. keys_within (known_keys v) (needed_keys v) document) told

-- ---- Arrays

-- an array is read if each element is of its kind
pub each_of : {T : Type 0} (kind : Data → Option T) (instead : T) (array : List Value)
    → each kind (items_view array) ≡ (if list_all (λ value. is_some (kind (view value))) array then Some (map (λ value. unwrap_or (kind (view value)) instead) array) else None)
each_of kind instead [] = refl
each_of kind instead (value ∷ array) =
    ap (λ rest. option_and_then (λ first. option_map (λ others. first ∷ others) rest) (kind (view value))) (each_of kind instead array)
    ∙ of_kind_more (kind (view value)) (list_all (λ v. is_some (kind (view v))) array) (map (λ v. unwrap_or (kind (view v)) instead) array) instead

in_array : {T : Type 0} (kind : Data → Option T) (found : Option Items) (array : Items) → Ok array ≡ ok_or found WrongKind → ok_or (option_and_then (each kind) found) WrongKind ≡ ok_or (each kind array) WrongKind
in_array kind None array is = cc
in_array kind (Some items) array is = let same : array ≡ items = cc in ap (λ a. ok_or (each kind a) WrongKind) (sym same)

-- what is read at a key where there is an array
pub at_array : {T : Type 0} (kind : Data → Option T) (found : Option Data) (array : Items) → Ok array ≡ ok_or (option_and_then as_array found) WrongKind
    → ok_or (option_and_then (λ value. option_and_then (each kind) (as_array value)) found) WrongKind ≡ ok_or (each kind array) WrongKind
at_array kind None array is = cc
at_array kind (Some value) array is = in_array kind (as_array value) array is

-- what is read there, of an array that is kept if all its values are of the kind
pub kinds_at : {T : Type 0} (kind : Data → Option T) (instead : T) (found : Option Data) (array : List Value) (are : Bool) (kept : Result (Bor (List Value)) FoundingRefusal)
    → Ok (items_view array) ≡ ok_or (option_and_then as_array found) WrongKind → are ≡ list_all (λ value. is_some (kind (view value))) array
    → seen (λ values. values.now) kept ≡ (if are then Ok array else Err WrongKind)
    → seen (λ values. map (λ value. unwrap_or (kind (view value)) instead) values.now) kept ≡ ok_or (option_and_then (λ value. option_and_then (each kind) (as_array value)) found) WrongKind
kinds_at {T} kind instead found array are kept is told held =
    read kept are held
    ∙ ap (λ all. ok_or (if all then Some (map element array) else None) WrongKind) told
    ∙ sym (ap (λ elements. ok_or elements WrongKind) (each_of kind instead array))
    ∙ sym (at_array kind found (items_view array) is)
  where
    element : Value → T
    element value = unwrap_or (kind (view value)) instead

    read : (r : Result (Bor (List Value)) FoundingRefusal) (b : Bool) → seen (λ values. values.now) r ≡ (if b then Ok array else Err WrongKind)
        → seen (λ values. map element values.now) r ≡ ok_or (if b then Some (map element array) else None) WrongKind
    read (Ok values) true e = let same : values.now ≡ array = cc in ap (λ a. Ok (map element a)) same
    read (Ok values) false e = cc
    read (Err refusal) true e = cc
    read (Err refusal) false e = let same : refusal ≡ WrongKind = cc in ap Err same

one_text : (first : Option (List ℕ)) → option_and_then two (option_and_then (λ text. option_map (λ texts. text ∷ texts) (Some [])) first) ≡ None
one_text None = refl
one_text (Some first) = refl

more_texts : (first second third : Option (List ℕ)) (rest : Option (List (List ℕ)))
    → option_and_then two (option_and_then (λ a. option_map (λ texts. a ∷ texts) (option_and_then (λ b. option_map (λ texts. b ∷ texts) (option_and_then (λ c. option_map (λ texts. c ∷ texts) rest) third)) second)) first) ≡ None
more_texts None second third rest = refl
more_texts (Some a) None third rest = refl
more_texts (Some a) (Some b) None rest = refl
more_texts (Some a) (Some b) (Some c) None = refl
more_texts (Some a) (Some b) (Some c) (Some texts) = refl

not_two : (values : List Value) → length values ≢ 2 → option_and_then two (each as_str (items_view values)) ≡ None
not_two [] other = refl
not_two (a ∷ []) other = one_text (as_str (view a))
not_two (a ∷ b ∷ []) other = absurd (other refl)
not_two (a ∷ b ∷ c ∷ values) other = more_texts (as_str (view a)) (as_str (view b)) (as_str (view c)) (each as_str (items_view values))

-- an array of another length is no pair
pub no_pair : (value : Value) (values : List Value) → as_array (view value) ≡ Some (items_view values) → length values ≢ 2 → as_permission (view value) ≡ None
no_pair value values is other = rw is (not_two values other)

-- ---- Names, one after another

-- what is read already, and the rest of which each has to be well formed
abbrev pub read_from : {X : Type 0} → (X → Bool) → List X → List X → Reading (List X)
read_from is_formed done rest = if list_all is_formed rest then Ok (done ++ rest) else Err BadName

first_read : {X : Type 0} (is_formed : X → Bool) (done : List X) (x : X) (rest : List X) (b : Bool)
    → (if b && list_all is_formed rest then Ok (done ++ x ∷ rest) else Err BadName) ≡ ((if b then Ok x else Err BadName) >>= λ y. read_from is_formed (done ++ y ∷ []) rest)
first_read is_formed done x rest true = ap (λ all. if list_all is_formed rest then Ok all else Err BadName) (sym (append_assoc done (x ∷ []) rest))
first_read is_formed done x rest false = refl

-- the next element is read, or refused
pub read_from_next : {X : Type 0} (is_formed : X → Bool) (shown : Value → X) (done : List X) (array : List Value) (i : ℕ) (value : Value) (answer : Reading X)
    → i < length array → value ≡ get_or array i value → (if is_formed (shown value) then Ok (shown value) else Err BadName) ≡ answer
    → read_from is_formed done (map shown (drop i array)) ≡ (answer >>= λ x. read_from is_formed (done ++ x ∷ []) (map shown (drop (i + 1) array)))
read_from_next is_formed shown done array i value answer within here read =
    let later = map shown (drop (i + 1) array) in
    at_drop_more (λ values. read_from is_formed done (map shown values)) array i value within
    ∙ ap (λ element. read_from is_formed done (shown element ∷ later)) (sym here)
    ∙ first_read is_formed done (shown value) later (is_formed (shown value))
    ∙ ap (λ r. r >>= λ x. read_from is_formed (done ++ x ∷ []) later) read

-- after the last element all are read
pub read_from_end : {X : Type 0} (is_formed : X → Bool) (shown : Value → X) (done : List X) (array : List Value) (i : ℕ) → length array ≤ i → read_from is_formed done (map shown (drop i array)) ≡ Ok (done ++ [])
read_from_end is_formed shown done array i h = at_drop_all (λ values. read_from is_formed done (map shown values)) array i h
