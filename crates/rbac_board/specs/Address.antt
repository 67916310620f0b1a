-- Where the cells of a row are. A row keeps its cells in blocks of 256, and each block in a cell of its own.
use Rattle.std.specs.Prelude.{ℕ, ◌/◌, ◌%◌, List, map, get_or}
use Rattle.std.specs.List.{range_with_len}

-- where a cell is: the name of the cell that holds its block, and its place in the block
pub record Address : Type 0 where
  pub block : ℕ
  pub place : ℕ

-- where the cell at a place of a row is, by the names of the cells that hold its blocks
abbrev pub address_of : List ℕ → ℕ → Address
address_of blocks place = record { block = get_or blocks (place / 256) 0; place = place % 256 }

-- where the cells at the first places of a row are
abbrev pub addresses : List ℕ → ℕ → List Address
addresses blocks places = map (address_of blocks) (range_with_len 0 places)
