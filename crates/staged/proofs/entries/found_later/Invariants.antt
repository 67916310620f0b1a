use Rattle.std.proofs.Common.{◌≡◌, List, take}
use Rattle.std.specs.Option.{option_copied}
use Rattle.std.specs.FinMap.Entries.{find}
use Rattle.staged.specs.Entries.{after_entries}
use Rattle.staged.proofs.entries.found_later.Given as goal

abbrev pub invariant-loop-step : goal.invariant-loop-step
invariant-loop-step g l = (before : List (g.row.K.Denot × g.row.V.Denot)) → option_copied l.fn.found ≡ find g.K.Ord.cmp l.key before → option_copied l.found ≡ find g.K.Ord.cmp l.key (after_entries g.K.Ord.cmp (take l.step-index l.steps) before)
