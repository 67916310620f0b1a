-- Pieces of texts: compact JSON without blanks.
use Rattle.std.specs.Prelude.{ℕ, List, ◌++◌, codes}
use Rattle.std.specs.List.{join_by}

-- "ann": nothing that stands here has to be escaped
abbrev pub in_quotes : List ℕ → List ℕ
in_quotes text = codes "\"" ++ text ++ codes "\""

-- the texts of the elements, with commas between, in brackets
abbrev pub array_text : {X : Type 0} → (X → List ℕ) → List X → List ℕ
array_text element_text elements = codes "[" ++ join_by element_text (codes ",") elements ++ codes "]"
