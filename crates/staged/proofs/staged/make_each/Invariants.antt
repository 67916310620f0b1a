use Rattle.std.proofs.Common.{◌≡◌, ◌≤◌, length}
use Rattle.std.specs.Vec.Iter.{into_iter_items}
use Rattle.staged.specs.Made.{made_all}
use Rattle.staged.proofs.staged.make_each.Given as goal

abbrev pub invariant-loop-step : goal.invariant-loop-step
invariant-loop-step g l =
    let to_make = into_iter_items l.step-iterator in
    record {
      room : length to_make ≤ g.S.Staged.room l.staged;
      made : made_all g.S.Staged.made to_make (g.S.Staged.content l.staged) ≡ made_all g.S.Staged.made l.fn.steps.items (g.S.Staged.content l.fn.staged);
    }
