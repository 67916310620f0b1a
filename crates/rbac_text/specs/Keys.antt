-- Keys of an object or a document.
use Rattle.std.specs.Prelude.{ℕ, List, Bool}
use Rattle.std.specs.List.{list_any}
use Rattle.std.specs.Str.{bytes_eq}

-- whether a key is one of these
abbrev pub is_one_of : List (List ℕ) → List ℕ → Bool
is_one_of keys key = list_any (bytes_eq key) keys
