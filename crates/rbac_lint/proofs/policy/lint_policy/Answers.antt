use Rattle.std.proofs.Common.{count_by}
use Rattle.rbac_lint.specs.Passing.{passes_by}
use Rattle.rbac_lint.proofs.CountLemmas.{summed_next}
use Rattle.rbac_lint.proofs.policy.lint_policy.Goals as goal

pub loop-role-preserved : goal.loop-role-preserved
loop-role-preserved c = record {
  warned = c.in_ok-lint_dynamic_sets.ensures.warned c.loop-role.invariant.warned;
  counted = summed_next (λ role. count_by (passes_by c.args.policy.now role) c.args.policy.now.dynamic_sets) _ _ c.role-item.result _ _ c.loop-role-test.true c.role-item.is c.loop-role.invariant.counted c.in_ok-lint_dynamic_sets.ensures.counted;
}
