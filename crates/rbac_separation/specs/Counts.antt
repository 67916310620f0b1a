-- Numbers kept of sets of roles and users, and what they say of a set.
use Rattle.std.specs.Prelude.{ℕ, ◌≡◌, ◌<◌, ◌+◌, List, [], ◌∷◌, All, length, map, flat_map, get_or, Bool, ◌&&◌, Option, Some, None, if◌then◌else◌, nat_le, count_by}
use Rattle.std.specs.List.{zip}
use Rattle.std.specs.Ordering.{eq_by_cmp}
use Rattle.std.specs.FinMap.Entries.{find}
use Rattle.sorted_keys.specs.Keys.{has}
use Rattle.rbac_terms.specs.Name.{Name, name_cmp}
use Rattle.rbac_terms.specs.Separation.{RoleSet}

-- the place of each set in a row, that of each user among the rows, and the rows of numbers
pub record Counts : Type 0 where
  pub sets : List (Name × ℕ)
  pub users : List (Name × ℕ)
  pub rows : List (List ℕ)

-- the number at a place of a row, 0 past the end of the row and past the last row
abbrev pub number_in : List (List ℕ) → ℕ → ℕ → ℕ
number_in rows i j = get_or (get_or rows j []) i 0

-- what is found at two places that may be none, and 0 where one is none
abbrev pub found_at : Option ℕ → Option ℕ → (ℕ → ℕ → ℕ) → ℕ
found_at None b found = 0
found_at (Some i) None found = 0
found_at (Some i) (Some j) found = found i j

-- the number of a set and a user, 0 where there is none
abbrev pub numbers_of : Counts → Name → Name → ℕ
numbers_of counts set user = found_at (find name_cmp set counts.sets) (find name_cmp user counts.users) (number_in counts.rows)

-- the number in a row at a place that may be none, and 0 where it is none
abbrev pub at_place : List ℕ → Option ℕ → ℕ
at_place row None = 0
at_place row (Some i) = get_or row i 0

-- nothing stands at a place that no set has, or no user
pub record IsKept (sets users : List (Name × ℕ)) (rows : List (List ℕ)) : Type 0 where
  pub of_sets : (i : ℕ) → ((set : Name) → find name_cmp set sets ≡ Some i → ⊥) → (j : ℕ) → number_in rows i j ≡ 0
  pub of_users : (j : ℕ) → ((user : Name) → find name_cmp user users ≡ Some j → ⊥) → (i : ℕ) → number_in rows i j ≡ 0

-- ---- Numbers that change

-- 0 for all
abbrev pub no_numbers : Name → Name → ℕ
no_numbers s u = 0

-- another number for one set and one user
abbrev pub with_number : Name → Name → ℕ → (Name → Name → ℕ) → Name → Name → ℕ
with_number set user n numbers s u = if eq_by_cmp name_cmp set s && eq_by_cmp name_cmp user u then n else numbers s u

-- a number for a set and a user
pub record CountChange : Type 0 where
  pub set : Name
  pub user : Name
  pub number : ℕ

-- numbers that are given to sets and users, one after the other
abbrev pub with_numbers : List CountChange → (Name → Name → ℕ) → Name → Name → ℕ
with_numbers [] numbers = numbers
with_numbers (change ∷ changes) numbers = with_numbers changes (with_number change.set change.user change.number numbers)

-- a user's numbers of sets
abbrev pub row_changes : List Name → Name → List ℕ → List CountChange
row_changes sets user row = map (λ e. record { set = e.0; user = user; number = e.1 }) (zip sets row)

-- the users' numbers of sets
abbrev pub changes_of : List Name → List Name → List (List ℕ) → List CountChange
changes_of sets users rows = flat_map (λ e. row_changes sets e.0 e.1) (zip users rows)

-- 0 for a set, with each user
abbrev pub without_set : Name → (Name → Name → ℕ) → Name → Name → ℕ
without_set set numbers s u = if eq_by_cmp name_cmp set s then 0 else numbers s u

-- 0 for a user, with each set
abbrev pub without_user : Name → (Name → Name → ℕ) → Name → Name → ℕ
without_user user numbers s u = if eq_by_cmp name_cmp user u then 0 else numbers s u

-- ---- What the numbers say of a set

-- a number and how many roles of the set are among these come to n or more
abbrev pub is_over : ℕ → List Name → RoleSet → Bool
is_over number fresh set = nat_le set.cardinality (number + count_by (λ r. has name_cmp r fresh) set.roles)

-- the first of the sets, by name, of which they do
abbrev pub first_over : (Name → ℕ) → List Name → List (Name × RoleSet) → Option Name
first_over numbers fresh [] = None
first_over numbers fresh (e ∷ es) = if is_over (numbers e.0) fresh e.1 then Some e.0 else first_over numbers fresh es

-- ---- Places that are planned

-- a set and a user have these places, and the user's row is so wide
pub record IsPlaced (set user : Name × ℕ) (counts : Counts) : Type 0 where
  pub of_set : find name_cmp set.0 counts.sets ≡ Some set.1
  pub of_user : find name_cmp user.0 counts.users ≡ Some user.1
  pub within : set.1 < length (get_or counts.rows user.1 [])

-- each set with each user
abbrev pub ArePlaced : List (Name × ℕ) → List (Name × ℕ) → Counts → Type 0
ArePlaced sets users counts = All (λ user. All (λ set. IsPlaced set user counts) sets) users

-- both have the same places, and rows of the same widths
pub record HaveSamePlaces (before after : Counts) : Type 0 where
  pub sets : after.sets ≡ before.sets
  pub users : after.users ≡ before.users
  pub widths : (j : ℕ) → length (get_or after.rows j []) ≡ length (get_or before.rows j [])
