-- What sessions are seen as.
use Rattle.std.specs.Prelude.{ℕ, List}
use Rattle.rbac_terms.specs.Name.{Name}
use Rattle.rbac_terms.specs.State.{Session}

-- the sessions by their names, in order, and for how many more there is room
pub record Sessions : Type 0 where
  pub content : List (Name × Session)
  pub room : ℕ
