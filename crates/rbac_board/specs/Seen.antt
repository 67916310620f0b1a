-- What is known of one cell.
use Rattle.std.specs.Prelude.{Option, None, Some, IsTrue, is_some}
use Rattle.std.proofs.Common.{sym, true≢false}
use Rattle.rbac_board.specs.Address.{Address}

-- where a cell is, and the value that it holds for good
pub record Seen (T : Type 0) : Type 0 where
  pub cell : Address
  pub value : T

-- the value of an option that has one
abbrev pub value_in : {T : Type 0} (known : Option T) → IsTrue (is_some known) → T
value_in None seen = absurd (true≢false (sym seen))
value_in (Some x) seen = x

-- a cell whose value is known
abbrev pub seen_of : {T : Type 0} (cell : Address) (known : Option T) → IsTrue (is_some known) → Seen T
seen_of cell known seen = record { cell = cell; value = value_in known seen }
