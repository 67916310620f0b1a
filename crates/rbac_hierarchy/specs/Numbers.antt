-- Roles by numbers: the number of a role is its place in a list of names.
use Rattle.std.specs.Prelude.{ℕ, ◌≡◌, ◌<◌, IsTrue, List, [], length, get_or}
use Rattle.sorted_keys.specs.Keys.{has, set_of}
use Rattle.rbac_terms.specs.Name.{Name, name_cmp, pair_cmp}
use Rattle.rbac_terms.specs.Inheritance.{inherits}
use Rattle.bit_rows.specs.Bits.{Rows, AreBelow, count, first_of, related, second_of}
use Rattle.rbac_hierarchy.specs.Rows.{RangesOver}

-- the role with a number
abbrev pub role_at : List Name → ℕ → Name
role_at names i = get_or names i []

-- the names as a set: the roles
abbrev pub roles_of : List Name → List Name
roles_of names = set_of name_cmp names

-- each name stands once
abbrev pub AreNumbered : List Name → Type 0
AreNumbered names = (i j : ℕ) → i < length names → j < length names → role_at names i ≡ role_at names j → i ≡ j

-- each number is related to those of the roles that its role inherits
pub record IsExact (names : List Name) (declared : List (Name × Name)) (inherited : Rows) : Type 0 where
  pub numbered : AreNumbered names
  pub ranges : RangesOver (roles_of names) declared
  pub as_many : count inherited ≡ length names
  pub told : (i j : ℕ) → i < length names → j < length names → related inherited i j ≡ inherits (roles_of names) declared (role_at names i) (role_at names j)

-- the pairs by their numbers, all those whose ascendant inherits some role
pub record ArePairsAbove (names : List Name) (kept : List (Name × Name)) (inherited : Rows) (above : ℕ) (pairs : List (ℕ × ℕ)) : Type 0 where
  pub below : AreBelow pairs (length names)
  pub declared : (k : ℕ) → k < length pairs → IsTrue (has pair_cmp (role_at names (first_of pairs k), role_at names (second_of pairs k)) kept)
  pub all : (i j : ℕ) → i < length names → j < length names → IsTrue (related inherited i above) → IsTrue (has pair_cmp (role_at names i, role_at names j) kept)
      → (k : ℕ) × (k < length pairs) × (first_of pairs k ≡ i) × (second_of pairs k ≡ j)
