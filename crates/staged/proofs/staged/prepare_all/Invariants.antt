use Rattle.std.proofs.Common.{◌≡◌, length, take}
use Rattle.staged.specs.Made.{made_all}
use Rattle.staged.proofs.staged.prepare_all.Given as goal

abbrev pub invariant-loop-change : goal.invariant-loop-change
invariant-loop-change g l =
    let content = g.S.Staged.content l.staged in
    record {
      made : made_all g.S.Staged.made l.plan content ≡ made_all g.S.Staged.changed (take l.change-index l.changes) content;
      length : length l.plan ≡ l.change-index;
    }
