use Rattle.std.proofs.Common.{◌≡◌, ◌||◌, ◌&&◌, drop}
use Rattle.rbac_decide.proofs.Common.{has, Name, name_cmp, is_constrained}
use Rattle.rbac_decide.proofs.touched.constrained_among.Given as goal

abbrev pub invariant-loop-entry : goal.invariant-loop-entry
invariant-loop-entry l =
    (r : Name) → (has name_cmp r l.names || (is_constrained r (drop l.entry-index l.sets) && has name_cmp r l.among)) ≡ (is_constrained r l.sets && has name_cmp r l.among)
