-- The cells of a founding's rows.
use Rattle.std.specs.Prelude.{ℕ, ◌-◌, List, [], slice_index_or}
use Rattle.rbac_board.specs.Address.{Address}

-- of each member, in order of number, the addresses of the cells in which it shows what it sent, and what it delivered
pub record Cells : Type 0 where
  pub sent : List (List Address)
  pub history : List (List Address)

abbrev pub no_cells : Cells
no_cells = record { sent = []; history = [] }

abbrev pub sent_cells : Cells → ℕ → List Address
sent_cells c number = slice_index_or c.sent (number - 1) []

abbrev pub history_cells : Cells → ℕ → List Address
history_cells c number = slice_index_or c.history (number - 1) []
