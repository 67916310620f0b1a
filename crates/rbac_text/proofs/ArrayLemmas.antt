-- Reading an array of names, one element after another, or of objects.
use Rattle.std.proofs.Common.{◌≡◌, ◌&&◌, ◌+◌, ◌<◌, ◌≤◌, ℕ, List, [], ◌∷◌, map, drop, get_or, length, fold, Bool, true, false, ◌||◌, None, Some, Ok, Err, is_some, option_map, option_and_then, unwrap_or, if◌then◌else◌, refl, sym, ap, ◌∙◌}
use Rattle.std.specs.List.{list_all}
use Rattle.std.proofs.lemmas.List.{at_drop_more, at_drop_all}
use Rattle.lent_json.specs.Data.{Lent}
use Rattle.serde_json.specs.Find.{as_object, as_str}
use Rattle.lent_json.specs.Data.{meaning, items}
use Rattle.std.specs.List.Sorted.{IsStrictlySortedBy}
use Rattle.std.specs.Ordering.{eq_by_cmp}
use Rattle.sorted_keys.specs.Keys.{has, with_key, set_of}
use Rattle.sorted_keys.proofs.Order.{sorted_none}
use Rattle.sorted_keys.proofs.KeyPlace.{sorted_with_key}
use Rattle.sorted_keys.proofs.Members.{has-with_key, same_keys}
use Rattle.sorted_keys.proofs.Gathered.{has-set_of, sorted_set_of}
use Rattle.rbac_terms.specs.Name.{Name, is_name, name_cmp}
use Rattle.rbac_terms.proofs.NameLemmas.{names_total, names_exact}
use Rattle.rbac_text.specs.Steps.{◌>>=◌}
use Rattle.rbac_text.proofs.ReadingLemmas.{of_kind_more}
use Rattle.rbac_text.specs.Fields.{Reading, name_of, names_of, texts_of, are_objects}
use Rattle.rbac_text.specs.declared.refusal.LineRefusal.TheVariants.{WrongKind, BadName}

-- ---- Names that are added in turn

-- a set with these names added one after another
abbrev pub added : List Name → List Name → List Name
added set names = fold (λ s name. with_key name_cmp name s) set names

sorted_added : (set names : List Name) → IsStrictlySortedBy name_cmp set → IsStrictlySortedBy name_cmp (added set names)
sorted_added set [] sorted = sorted
sorted_added set (name ∷ names) sorted = sorted_added (with_key name_cmp name set) names (sorted_with_key names_total name set sorted)

or_first : (a b c : Bool) → (b || (a || c)) ≡ ((a || b) || c)
or_first true true c = refl
or_first true false c = refl
or_first false b c = refl

or_none : (b : Bool) → (b || false) ≡ b
or_none true = refl
or_none false = refl

has-added : (set names : List Name) (q : Name) → has name_cmp q (added set names) ≡ (has name_cmp q names || has name_cmp q set)
has-added set [] q = refl
has-added set (name ∷ names) q =
    has-added (with_key name_cmp name set) names q
    ∙ ap (λ b. has name_cmp q names || b) (has-with_key names_total name set q)
    ∙ or_first (eq_by_cmp name_cmp q name) (has name_cmp q names) (has name_cmp q set)

-- names added to the empty set are the set of the names
pub added_all : (names : List Name) → added [] names ≡ set_of name_cmp names
added_all names =
    same_keys names_exact names_total (added [] names) (set_of name_cmp names) (sorted_added [] names (sorted_none name_cmp)) (sorted_set_of names_total names)
    (λ q. has-added [] names q ∙ or_none (has name_cmp q names) ∙ sym (has-set_of names_total names q))

-- ---- The elements of an array

-- the text of an element
abbrev pub text_of : Lent → List ℕ
text_of value = unwrap_or (as_str (meaning value)) []

-- a set and the texts that are left to add to it as names
abbrev pub names_from : List Name → List (List ℕ) → Reading (List Name)
names_from set texts = if list_all is_name texts then Ok (added set texts) else Err BadName

first_added : (set : List Name) (text : List ℕ) (texts : List (List ℕ)) (b : Bool)
    → (if b && list_all is_name texts then Ok (added (with_key name_cmp text set) texts) else Err BadName) ≡ ((if b then Ok text else Err BadName) >>= λ name. names_from (with_key name_cmp name set) texts)
first_added set text texts true = refl
first_added set text texts false = refl

-- the next element is read as a name and added, or refused
pub names_from_next : (set : List Name) (array : List Lent) (i : ℕ) (value : Lent) (text : List ℕ) (answer : Reading Name)
    → i < length array → value ≡ get_or array i value → text ≡ text_of value → name_of text ≡ answer
    → names_from set (map text_of (drop i array)) ≡ (answer >>= λ name. names_from (with_key name_cmp name set) (map text_of (drop (i + 1) array)))
names_from_next set array i value text answer within here is read =
    let later = map text_of (drop (i + 1) array) in
    at_drop_more (λ values. names_from set (map text_of values)) array i value within
    ∙ ap (λ element. names_from set (text_of element ∷ later)) (sym here)
    ∙ ap (λ first. names_from set (first ∷ later)) (sym is)
    ∙ first_added set text later (is_name text)
    ∙ ap (λ r. r >>= λ name. names_from (with_key name_cmp name set) later) read

-- after the last element the set is read
pub names_from_end : (set : List Name) (array : List Lent) (i : ℕ) → length array ≤ i → names_from set (map text_of (drop i array)) ≡ Ok set
names_from_end set array i h = at_drop_all (λ values. names_from set (map text_of values)) array i h

-- an array has texts if each element is one
pub texts_of_array : (array : List Lent) → texts_of (items array) ≡ (if list_all (λ value. is_some (as_str (meaning value))) array then Some (map text_of array) else None)
texts_of_array [] = refl
texts_of_array (value ∷ array) =
    ap (λ rest. option_and_then (λ text. option_map (λ later. text ∷ later) rest) (as_str (meaning value))) (texts_of_array array)
    ∙ of_kind_more (as_str (meaning value)) (list_all (λ v. is_some (as_str (meaning v))) array) (map text_of array) []

-- an array with another element is refused
pub names_of_others : (array : List Lent) → false ≡ list_all (λ value. is_some (as_str (meaning value))) array → names_of (items array) ≡ Err WrongKind
names_of_others array others = rw (texts_of_array array, ← others)

-- an array of texts is read from its first element on
pub names_of_texts : (array : List Lent) → true ≡ list_all (λ value. is_some (as_str (meaning value))) array → names_of (items array) ≡ names_from [] (map text_of array)
names_of_texts array texts =
    rw (texts_of_array array, ← texts) (ap (λ set. if list_all is_name (map text_of array) then Ok set else Err BadName) (sym (added_all (map text_of array))))

-- ---- Objects

-- whether an array has objects alone, element by element
pub are_objects_of : (array : List Lent) → are_objects (items array) ≡ list_all (λ value. is_some (as_object (meaning value))) array
are_objects_of [] = refl
are_objects_of (value ∷ array) = ap (λ rest. is_some (as_object (meaning value)) && rest) (are_objects_of array)
