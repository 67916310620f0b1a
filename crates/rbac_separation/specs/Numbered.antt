-- Names with numbers of their own.
use Rattle.std.specs.Prelude.{ℕ, ◌≡◌, List, map, true, Some, None, is_some}
use Rattle.std.specs.FinMap.Entries.{find}
use Rattle.std.specs.Ordering.{eq_by_cmp}
use Rattle.slab.specs.Slab.{Slab, get}
use Rattle.rbac_terms.specs.Name.{Name, name_cmp}

-- the names of these
abbrev pub names_of : {X : Type 0} → List (Name × X) → List Name
names_of es = map (λ e. e.0) es

-- each name's number is taken, and no other name has it
pub record IsNumbered {X : Type 0} (names : List (Name × ℕ)) (numbers : Slab X) : Type 0 where
  pub taken : (name : Name) (n : ℕ) → find name_cmp name names ≡ Some n → is_some (get numbers n) ≡ true
  pub own : (a b : Name) (n : ℕ) → find name_cmp a names ≡ Some n → find name_cmp b names ≡ Some n → eq_by_cmp name_cmp a b ≡ true

-- each name keeps its number, and a number that another name gets was no name's
pub record IsMore (before after : List (Name × ℕ)) : Type 0 where
  pub kept : (name : Name) (n : ℕ) → find name_cmp name before ≡ Some n → find name_cmp name after ≡ Some n
  pub fresh : (name : Name) (n : ℕ) → find name_cmp name before ≡ None → find name_cmp name after ≡ Some n → (other : Name) → find name_cmp other before ≡ Some n → ⊥
