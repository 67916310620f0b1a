use Rattle.rbac_board.proofs.RowLemmas.{of_set}
use Rattle.rbac_board.proofs.row.Row.set.Goals as goal

pub returns-in-Some-clause-of : goal.returns-in-Some-clause-of
returns-in-Some-clause-of g c =
    of_set c.set.result c.args.self.now c.args.mark.now c.set.new.self c.args.place _ c.args.value.value c.requires.of c.requires.next (rw c.place_in_block.ensures c.in-Some.ensures.1) c.set.ensures.cells c.set.ensures.values c.set.ensures.unchanged
