use Rattle.std.proofs.Common.{◌≡◌, ◌<◌, length}
use Rattle.std.proofs.lemmas.List.{length-map}
use Rattle.once_cell.specs.Once.{cell_name}
use Rattle.rbac_board.specs.Address.{Address}
use Rattle.rbac_board.specs.Seen.{Seen}
use Rattle.rbac_board.proofs.ImageLemmas.{image_at, at_image}
use Rattle.rbac_board.proofs.mark.Mark.value.Goals as goal

pub value-requires : goal.value-requires
value-requires g c =
    rw c.index_mut.ensures.value (image_at (λ (s : Seen g.row.T.Denot). s.cell) (λ (a : Address). a.block ≡ cell_name c.args.holder.now) c.self.inside.sights.items c.args.place _ (rw (← c.self.view_is) at c.requires.holder))

pub returns-clause-value : goal.returns-clause-value
returns-clause-value g c =
    let sights = c.self.inside.sights.items in
    let held : c.args.place < length sights = rw (← c.self.view_is, length-map) at c.requires.known in
    rw (← c.self.view_is, c.value.ensures.value, c.index_mut.ensures.value) (at_image (λ (s : Seen g.row.T.Denot). s.value) sights c.args.place _ held)
