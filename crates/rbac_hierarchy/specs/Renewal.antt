-- Rows that are made anew: what they have in common with those before, and with the pairs.
use Rattle.std.specs.Prelude.{ℕ, ◌≡◌, ◌<◌, ◌≤◌, Bool, IsTrue, List, length, nat_eq, if◌then◌else◌}
use Rattle.sorted_keys.specs.Keys.{has}
use Rattle.rbac_terms.specs.Name.{Name, pair_cmp}
use Rattle.bit_rows.specs.Bits.{Rows, AreJoined, count, first_of, related, second_of}
use Rattle.rbac_hierarchy.specs.Numbers.{role_at}

-- what is related where each number that is related to some number is related to itself alone
abbrev pub reset : Rows → ℕ → ℕ → ℕ → Bool
reset inherited above i j = if related inherited i above then nat_eq j i else related inherited i j

-- the least relation over what is left after that, of which the first number of each pair has what the second one has
pub record IsRenewed (old : Rows) (above : ℕ) (pairs : List (ℕ × ℕ)) (new : Rows) : Type 0 where
  pub as_many : count new ≡ count old
  pub still : (i j : ℕ) → IsTrue (reset old above i j) → IsTrue (related new i j)
  pub joined : AreJoined (related new) pairs
  pub least : (R : ℕ → ℕ → Bool) → ((i j : ℕ) → IsTrue (reset old above i j) → IsTrue (R i j)) → AreJoined R pairs → (i j : ℕ) → IsTrue (related new i j) → IsTrue (R i j)

-- the pairs by their numbers: those before, and those of one ascendant that are declared
pub record HasPairsOf (names : List Name) (ascendant : ℕ) (declared : List (Name × Name)) (before pairs : List (ℕ × ℕ)) : Type 0 where
  pub more : length before ≤ length pairs
  pub kept : (k : ℕ) → k < length before → (first_of pairs k ≡ first_of before k) × (second_of pairs k ≡ second_of before k)
  pub new : (k : ℕ) → length before ≤ k → k < length pairs → (first_of pairs k ≡ ascendant) × (second_of pairs k < length names) × ((a : Name) × IsTrue (has pair_cmp (a, role_at names (second_of pairs k)) declared))
  pub all : (a d : Name) → IsTrue (has pair_cmp (a, d) declared) → (k : ℕ) × (k < length pairs) × (first_of pairs k ≡ ascendant) × (second_of pairs k < length names) × (role_at names (second_of pairs k) ≡ d)
