use Rattle.rbac_terms.specs.Separation.{is_broken}
use Rattle.rbac_lint.proofs.CountLemmas.{counted_next}
use Rattle.rbac_lint.proofs.policy.lint_sets.Goals as goal

pub loop-entry-preserved : goal.loop-entry-preserved
loop-entry-preserved c = record {
  warned = λ had. c.in_ok-lint_role.ensures.warned (c.loop-entry.invariant.warned had);
  counted = counted_next (λ e. is_broken c.args.inherited.now e.1) _ _ c.entry-item.result _ _ _ c.loop-entry-test.true c.entry-item.is c.loop-entry.invariant.counted c.in_ok-lint_role.ensures.counted;
}
