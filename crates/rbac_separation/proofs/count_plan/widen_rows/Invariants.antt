use Rattle.std.proofs.Common.{ℕ, ◌≡◌, ◌<◌, [], length, get_or}
use Rattle.rbac_terms.specs.Name.{Name}
use Rattle.rbac_separation.specs.Counts.{number_in}
use Rattle.rbac_separation.proofs.count_plan.widen_rows.Given as goal

abbrev pub invariant-loop-user : goal.invariant-loop-user
invariant-loop-user l = record {
  wide : (k : ℕ) (d : Name × ℕ) → k < l.user-index → l.place < length (get_or l.rows.items (get_or l.users k d).1 []);
  numbers : (i j : ℕ) → number_in l.rows.items i j ≡ number_in l.fn.rows.items i j;
}
