use Rattle.rbac_board.proofs.RowLemmas.{of_next}
use Rattle.rbac_board.proofs.row.Row.read.Goals as goal

pub returns-in_ok-add-in-Some-read-clause-of : goal.returns-in_ok-add-in-Some-read-clause-of
returns-in_ok-add-in-Some-read-clause-of g c =
    of_next c.args.self.now c.args.mark.now c.add.new.self c.in-Some-read.sight.cell c.in-Some-read.sight.value c.requires (rw (c.in-Some-read.ensures.cell, c.place_in_block.ensures, ← c.len-place.ensures) c.in-Some.ensures.1) c.in_ok-add-in-Some-read.ensures.cells c.in_ok-add-in-Some-read.ensures.values
