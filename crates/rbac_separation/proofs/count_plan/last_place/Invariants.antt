use Rattle.std.proofs.Common.{ℕ, ◌<◌, ◌≤◌, get_or}
use Rattle.rbac_terms.specs.Name.{Name}
use Rattle.rbac_separation.proofs.count_plan.last_place.Given as goal

abbrev pub invariant-loop-entry : goal.invariant-loop-entry
invariant-loop-entry l = (k : ℕ) (d : Name × ℕ) → k < l.entry-index → (get_or l.places k d).1 ≤ l.last
