use Rattle.std.proofs.Common.{◌≡◌}
use Rattle.rbac_program.proofs.serving.confirming.is_confirmed.Given as goal

-- no node changes, and not the pass
abbrev pub invariant-loop-place : goal.invariant-loop-place
invariant-loop-place g l = record {
  same : l.nodes ≡ l.fn.nodes;
  pass : l.pass ≡ l.fn.pass;
}
