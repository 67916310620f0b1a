use Rattle.std.proofs.Common.{◌≡◌, ◌∙◌, false, Some, sym}
use Rattle.rbac_decide.proofs.Common.{list_any, Name, RoleSet, touches, juniors_by}
use Rattle.rbac_decide.proofs.AffectedLemmas.{nowhere_touched}
use Rattle.rbac_decide.proofs.counting.affected.touching_juniors.Goals as goal

pub returns-else-touches_some-clause-none : goal.returns-else-touches_some-clause-none
returns-else-touches_some-clause-none c =
    let below = juniors_by c.args.tables.now c.args.role.now in
    let sets = c.args.tables.now.static_sets.content in
    let none : list_any (λ (x : Name × RoleSet). touches below (Some x.1)) sets ≡ false =
    sym (λ i. list_any (λ (x : Name × RoleSet). touches (c.in_ok-below.ensures i) (Some x.1)) (c.entries.ensures.entries i)) ∙ sym c.touches_some.ensures ∙ c.if-touches_some.false in
    nowhere_touched below sets none
