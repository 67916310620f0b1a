use Rattle.std.proofs.Common.{◌≡◌, ◌+◌, length, count_by, take}
use Rattle.rbac_terms.specs.Separation.{is_broken}
use Rattle.rbac_lint.specs.Findings.{AreWarnings}
use Rattle.rbac_lint.proofs.policy.lint_sets.Given as goal

-- the sets so far
abbrev pub invariant-loop-entry : goal.invariant-loop-entry
invariant-loop-entry l = record {
  warned : AreWarnings l.fn.findings.items → AreWarnings l.findings.items;
  counted : length l.findings.items ≡ length l.fn.findings.items + count_by (λ e. is_broken l.inherited e.1) (take l.entry-index l.entries);
}
