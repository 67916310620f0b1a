use Rattle.std.proofs.Common.{◌≡◌, length, count_by, sum_by, take}
use Rattle.rbac_lint.specs.Findings.{AreWarnings}
use Rattle.rbac_lint.specs.Passing.{passes_by}
use Rattle.rbac_lint.proofs.policy.lint_policy.Given as goal

-- the roles so far
abbrev pub invariant-loop-role : goal.invariant-loop-role
invariant-loop-role l = record {
  warned : AreWarnings l.findings.items;
  counted : length l.findings.items ≡ sum_by (λ role. count_by (passes_by l.policy role) l.policy.dynamic_sets) (take l.role-index l.role-items);
}
