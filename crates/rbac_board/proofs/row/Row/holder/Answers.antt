use Rattle.std.proofs.Common.{◌<◌, ◌/◌, length, map, arith}
use Rattle.once_cell.specs.Once.{cell_name}
use Rattle.rbac_board.proofs.AddressLemmas.{length-addresses, address_at}
use Rattle.rbac_board.proofs.row.Row.holder.Goals as goal

pub returns-then-self-place : goal.returns-then-self-place
returns-then-self-place g c =
    let long = length-addresses (map cell_name c.self.inside.blocks.items) c.self.inside.places in
    rw (← c.self.view_is, long) c.if-self-place.true

pub returns : goal.returns
returns g c =
    let long = length-addresses (map cell_name c.self.inside.blocks.items) c.self.inside.places in
    let held : c.args.place / 256 < length c.self.inside.blocks.items = omega (arith, c.self.invariant, c.if-self-place.false) in (
      rw (← c.self.view_is, long) c.if-self-place.false,
      rw (← c.self.view_is) (address_at cell_name c.self.inside.blocks.items c.self.inside.places c.args.place c.index.result.now c.if-self-place.false held c.index.ensures),
    )
