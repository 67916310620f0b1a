use Rattle.std.proofs.Common.{◌≡◌, drop}
use Rattle.rbac_separation.specs.Counts.{numbers_of, first_over}
use Rattle.rbac_separation.proofs.counts.Counts.over_with.Given as goal

abbrev pub invariant-loop-entry : goal.invariant-loop-entry
invariant-loop-entry l =
    first_over (λ set. numbers_of l.self set l.user) l.fresh l.entries ≡ first_over (λ set. numbers_of l.self set l.user) l.fresh (drop l.entry-index l.entries)
