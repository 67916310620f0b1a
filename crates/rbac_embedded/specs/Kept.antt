-- What a monitor keeps.
use Rattle.std.specs.Prelude.{ℕ, List}
use Rattle.rbac_terms.specs.State.{State}

-- a policy's state, and the text of the answer to the last command
pub record Kept : Type 0 where
  pub state : State
  pub answer : List ℕ
