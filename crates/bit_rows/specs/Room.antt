-- What rows have left to set: it gets less with each bit that is set.
use Rattle.std.specs.Prelude.{ℕ, ◌≡◌, ◌≤◌, ◌-◌, ◌^◌, ◌+◌, List, [], ◌∷◌, length, get_or}

abbrev pub unset : List ℕ → ℕ
unset [] = 0
unset (w ∷ words) = (2 ^ 64 - w) + unset words

abbrev pub unset_of_all : List (List ℕ) → ℕ
unset_of_all [] = 0
unset_of_all (row ∷ rows) = unset row + unset_of_all rows

-- as many rows, and each as wide
pub record ArePreserved (old new : List (List ℕ)) : Type 0 where
  pub rows : length new ≡ length old
  pub words : (i : ℕ) → length (get_or new i []) ≡ length (get_or old i [])

-- as many rows, and none is narrower
pub record AreWidened (old new : List (List ℕ)) : Type 0 where
  pub rows : length new ≡ length old
  pub words : (i : ℕ) → length (get_or old i []) ≤ length (get_or new i [])
