-- Numbers as the bits of words, and a relation on numbers as a row of bits for each number.
use Rattle.std.specs.Prelude.{ℕ, ◌/◌, ◌%◌, ◌*◌, ◌≡◌, ◌<◌, ◌≤◌, Bool, false, IsTrue, List, [], nat_eq, length, get_or, if◌then◌else◌}
use Rattle.std.specs.Int.{bit_at}

-- whether the bit j is set
unfoldable pub has_bit : List ℕ → ℕ → Bool
has_bit words j = nat_eq (bit_at (get_or words (j / 64) 0) (j % 64)) 1

-- whether no bit of a word is set
abbrev pub is_clear : List ℕ → ℕ → Bool
is_clear words k = nat_eq (get_or words k 0) 0

-- whether the bit j of the row i is set
abbrev pub bit : List (List ℕ) → ℕ → ℕ → Bool
bit rows i j = has_bit (get_or rows i []) j

-- a row of words for each number, and for how many more numbers there is room
pub record Rows : Type 0 where
  pub rows : List (List ℕ)
  pub room : ℕ

-- how many numbers there are: those below it
abbrev pub count : Rows → ℕ
count r = length r.rows

-- whether the number i is related to the number j
abbrev pub related : Rows → ℕ → ℕ → Bool
related r i j = bit r.rows i j

-- each row has room for so many bits
abbrev pub AreWide : List (List ℕ) → ℕ → Type 0
AreWide rows n = (i : ℕ) → i < length rows → n ≤ 64 * length (get_or rows i [])

-- each row has room for all numbers, and no bit of what is none
pub record IsRelation (rows : List (List ℕ)) : Type 0 where
  pub wide : AreWide rows (length rows)
  pub outside : (i j : ℕ) → length rows ≤ j → bit rows i j ≡ false

-- the rows of a relation, and those for numbers to come: each has so many words
pub record AreReady (rows spare : List (List ℕ)) (width : ℕ) : Type 0 where
  pub relation : IsRelation rows
  pub wide : AreWide rows (64 * width)
  pub spare_wide : AreWide spare (64 * width)

-- the number that goes by the number i, after the last number went into the gap of another
abbrev pub moved : ℕ → ℕ → ℕ → ℕ
moved gap last i = if nat_eq i gap then last else i

-- the two numbers of a pair
abbrev pub first_of : List (ℕ × ℕ) → ℕ → ℕ
first_of pairs k = (get_or pairs k (0, 0)).0

abbrev pub second_of : List (ℕ × ℕ) → ℕ → ℕ
second_of pairs k = (get_or pairs k (0, 0)).1

-- both numbers of each pair are below n
abbrev pub AreBelow : List (ℕ × ℕ) → ℕ → Type 0
AreBelow pairs n = (k : ℕ) → k < length pairs → (first_of pairs k < n) × (second_of pairs k < n)

-- what the second number of any of the pairs is related to, its first number is related to
abbrev pub AreJoined : (ℕ → ℕ → Bool) → List (ℕ × ℕ) → Type 0
AreJoined R pairs = (k : ℕ) → k < length pairs → (j : ℕ) → IsTrue (R (second_of pairs k) j) → IsTrue (R (first_of pairs k) j)
