-- What a table of sets of roles is seen as.
use Rattle.std.specs.Prelude.{ℕ, List}
use Rattle.rbac_terms.specs.Name.{Name}
use Rattle.rbac_terms.specs.Separation.{RoleSet}

-- the sets by their names, in order, and for how many more there is room
pub record SetTable : Type 0 where
  pub content : List (Name × RoleSet)
  pub room : ℕ
