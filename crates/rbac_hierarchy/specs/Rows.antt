-- For each role the row of its juniors, itself among them.
use Rattle.std.specs.Prelude.{◌≡◌, IsTrue, List, map}
use Rattle.std.specs.List.Sorted.{IsStrictlySortedBy}
use Rattle.sorted_keys.specs.Keys.{has}
use Rattle.rbac_terms.specs.Name.{Name, name_cmp, pair_cmp}
use Rattle.rbac_terms.specs.Inheritance.{juniors}

-- both names of each pair are roles
abbrev pub RangesOver : List Name → List (Name × Name) → Type 0
RangesOver roles declared = (a b : Name) → IsTrue (has pair_cmp (a, b) declared) → IsTrue (has name_cmp a roles) × IsTrue (has name_cmp b roles)

-- the roles that have rows
abbrev pub roles_in : List (Name × List Name) → List Name
roles_in rows = map (λ e. e.0) rows

-- the rows of these roles, over these pairs
abbrev pub rows_over : List Name → List (Name × Name) → List (Name × List Name)
rows_over roles declared = map (λ r. (r, juniors roles declared r)) roles

-- the rows are in the order of their roles, the pairs are between these, and each row has the juniors of its role
pub record AreRows (declared : List (Name × Name)) (rows : List (Name × List Name)) : Type 0 where
  pub in_order : IsStrictlySortedBy name_cmp (roles_in rows)
  pub ranges : RangesOver (roles_in rows) declared
  pub juniors : rows ≡ rows_over (roles_in rows) declared
