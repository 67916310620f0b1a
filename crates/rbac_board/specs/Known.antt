-- What is known of a row of cells that are set once. A row is the list of its cells' addresses.
use Rattle.std.specs.Prelude.{◌≡◌, ◌≤◌, List, length, map, take}
use Rattle.rbac_board.specs.Address.{Address}
use Rattle.rbac_board.specs.Seen.{Seen}

-- what a mark knows: the addresses of the first cells of a row, and the value that each holds for good
pub record Known (T : Type 0) : Type 0 where
  pub cells : List Address
  pub values : List T

-- what these cells hold, each of which was seen
abbrev pub known_of : {T : Type 0} → List (Seen T) → Known T
known_of seen = record { cells = map (λ s. s.cell) seen; values = map (λ s. s.value) seen }

-- what is known is of the first cells of this row
pub record IsOf {T : Type 0} (row : List Address) (k : Known T) : Type 0 where
  pub within : length k.values ≤ length row
  pub cells : k.cells ≡ take (length k.values) row

-- both are of one row, whichever it is
abbrev pub AreOfOneRow : {T : Type 0} → Known T → Known T → Type 0
AreOfOneRow k l = (row : List Address) × IsOf row k × IsOf row l

-- the lists are equal up to where the shorter one ends: one of them begins with the other
abbrev pub Agree : {A : Type 0} → List A → List A → Type 0
Agree xs ys = take (length ys) xs ≡ take (length xs) ys
