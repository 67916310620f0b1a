-- Processes that take a message of their member's own before it is set in its row, so that it may be lost with them, and deliver nothing of
-- a greater clock than what was set. What another process sets there instead is later than what was set.
use Rattle.std.specs.Prelude.{ℕ, ◌≡◌, ◌≢◌, List}
use Rattle.rbac_words.specs.World.{World}
use Rattle.rbac_words.specs.Keeping.Member.{Member, IsNumber, founded}
use Rattle.rbac_moves.specs.Seal.{row, IsGated}
use Rattle.rbac_embedded_member.specs.Calls.{Call, called, WereTold}

-- a process that is a member by these calls, over a transport that brought only texts of what stands in the rows; of what it sent and took
-- of its own a first part stands in its row, and it has delivered nothing of a greater clock than that
pub record IsCalledBehindAGate (w : World) (number : ℕ) (v : Member) (calls : List Call) : Type 0 where
  pub is_number : IsNumber w.group number
  pub made : called (founded w.group number w.vocabulary) calls ≡ v
  pub told : (k : ℕ) → IsNumber w.group k → k ≢ number → WereTold k (row w k) calls
  pub gated : IsGated w v
