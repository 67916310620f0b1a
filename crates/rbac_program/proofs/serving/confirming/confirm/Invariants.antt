use Rattle.std.proofs.Common.{◌≡◌, ◌<◌, ℕ, length, Some, slice_get}
use Rattle.rbac_node.specs.Pass.{PassState}
use Rattle.rbac_program.specs.Serving.{IsConfirmed}
use Rattle.rbac_program.proofs.serving.confirming.confirm.Given as goal

-- no node and no pass changes, and those before this place are confirmed
abbrev pub invariant-loop-place : goal.invariant-loop-place
invariant-loop-place g l = record {
  same : l.nodes ≡ l.fn.nodes;
  passes : l.passes ≡ l.fn.passes;
  end : l.place-end ≡ length l.fn.passes;
  confirmed : (i : ℕ) → i < l.place → (p : PassState) → slice_get l.fn.passes i ≡ Some p → IsConfirmed l.fn.nodes p;
}
