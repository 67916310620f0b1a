-- What a role hierarchy is seen as.
use Rattle.std.specs.Prelude.{ℕ, List, []}
use Rattle.rbac_terms.specs.Name.{Name}

-- the roles, and the declared pairs of an ascendant and a descendant (RH), each sorted and without repeats
pub record Order : Type 0 where
  pub roles : List Name
  pub declared : List (Name × Name)

-- and for how many more changes there is room
pub record Hierarchy : Type 0 where
  pub content : Order
  pub room : ℕ

-- no roles, and no pairs
abbrev pub no_order : Order
no_order = record { roles = []; declared = [] }
