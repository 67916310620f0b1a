use Rattle.std.proofs.Common.{◌≡◌, ◌+◌, List, length, count_by, OnOk, subst}
use Rattle.rbac_terms.specs.Name.{Name}
use Rattle.rbac_terms.specs.Separation.{RoleSet, is_broken}
use Rattle.rbac_lint.specs.Passing.{passes_by}
use Rattle.rbac_lint.proofs.policy.lint_dynamic_sets.Goals as goal

pub returns-clause-counted : goal.returns-clause-counted
returns-clause-counted c =
    let before = length c.args.findings.now.items in
    let now = length c.lint_sets.new.findings.items in
    subst (λ (sets : List (Name × RoleSet)). OnOk c.lint_sets.result (now ≡ before + count_by (passes_by c.args.policy.now c.args.role.now) sets))
    c.separation_sets-sets.ensures
    (subst (λ (names : List Name). OnOk c.lint_sets.result (now ≡ before + count_by (λ e. is_broken names e.1) c.separation_sets-sets.result.now))
    c.in_ok-inherited.ensures
    c.lint_sets.ensures.counted)
