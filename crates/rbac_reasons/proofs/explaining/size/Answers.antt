use Rattle.std.proofs.Common.{rules, ◌≡◌, Some, sym, ap, ◌∙◌}
use Rattle.std.specs.FinMap.Entries.{find}
use Rattle.rbac_terms.specs.Name.{name_cmp}
use Rattle.rbac_terms.specs.Separation.{RoleSet, is_well_sized}
use Rattle.rbac_terms.specs.Constraints.{sets_of}
use Rattle.rbac_terms.specs.Change.{change}
use Rattle.rbac_reasons.proofs.ExplanationLemmas.{told_size}
use Rattle.rbac_reasons.proofs.explaining.size.Goals as goal

pub returns : goal.returns
returns c =
    let x : RoleSet = c.in-Some.set in
    let size = told_size c.args.policy.now c.invariants.ensures c.args.kind c.args.set.now c.args.command.now c.requires in
    let found : find name_cmp c.args.set.now (sets_of c.args.kind (change c.args.command.now c.args.policy.now)) ≡ Some x = size.makes ∙ sym c.in_ok-set.ensures ∙ c.in-Some.is in
    let both : Some x ≡ Some size.role_set = sym found ∙ size.found in
    let same : x ≡ size.role_set = cc in
    (x, found, search rules, search rules, ap is_well_sized same ∙ size.bad)

pub unreachable-requires : goal.unreachable-requires
unreachable-requires c =
    let size = told_size c.args.policy.now c.invariants.ensures c.args.kind c.args.set.now c.args.command.now c.requires in
    let none = size.makes ∙ sym c.in_ok-set.ensures ∙ c.in-None.is in
    let both = sym none ∙ size.found in
    cc
