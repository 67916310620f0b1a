use Rattle.std.proofs.Common.{ap, sym, ◌∙◌}
use Rattle.rbac_hierarchy.proofs.ExactLemmas.{by_none_inherited, told_by_bit}
use Rattle.rbac_hierarchy.proofs.JuniorLemmas.{none_inherited, told}
use Rattle.rbac_hierarchy.proofs.NumberLemmas.{has_role}
use Rattle.rbac_hierarchy.specs.Numbers.{roles_of}
use Rattle.rbac_hierarchy.proofs.bit_order.BitOrderRoleOrder.inherits.Goals as goal

pub returns-in_default-clause-test : goal.returns-in_default-clause-test
returns-in_default-clause-test c =
    let names = c.self.inside.numbers.keys in
    rw (← ap (λ h. h.content) c.self.view_is) (sym (none_inherited (roles_of names) _ _ _ (has_role names c.args.senior.now ∙ c.in_default.ensures.absent)))

pub returns-in_default-clause-definition : goal.returns-in_default-clause-definition
returns-in_default-clause-definition c = told _ _ _ _ _ (returns-in_default-clause-test c)

pub returns-in_default-number_of-clause-test : goal.returns-in_default-number_of-clause-test
returns-in_default-number_of-clause-test c =
    let names = c.self.inside.numbers.keys in
    rw (← ap (λ h. h.content) c.self.view_is) (sym (by_none_inherited (roles_of names) _ _ _ (has_role names c.args.junior.now ∙ c.in_default-number_of.ensures.absent)))

pub returns-in_default-number_of-clause-definition : goal.returns-in_default-number_of-clause-definition
returns-in_default-number_of-clause-definition c = told _ _ _ _ _ (returns-in_default-number_of-clause-test c)

pub returns-clause-test : goal.returns-clause-test
returns-clause-test c =
    let inside = c.self.inside in
    let above = c.in-Some.ensures.numbered in
    let below = c.in-Some-number_of.ensures.numbered in
    c.has.ensures ∙ rw (← ap (λ h. h.content) c.self.view_is) (told_by_bit inside.numbers.keys inside.declared.content inside.inherited c.self.invariant _ _ _ _ above.0 above.1 below.0 below.1)

pub returns-clause-definition : goal.returns-clause-definition
returns-clause-definition c = told _ _ _ _ _ (returns-clause-test c)
