use Rattle.std.proofs.Common.{◌≡◌, ap, Result, Ok, Err, OnOk}
use Rattle.rbac_hierarchy.proofs.WalkLemmas.{added_before, added_itself}
use Rattle.policy_tests.proofs.tests.reviews.office_hierarchy.Goals as goal

-- what is so of a call that was made
made : {X E P : Type 0} {x : X} (r : Result X E) → r ≡ Ok x → OnOk r P → P
made (Ok y) e p = p
made (Err f) e p = let no : ⊥ = cc in absurd no

pub declare-requires-clause-ascendant : goal.declare-requires-clause-ascendant
declare-requires-clause-ascendant g c =
    let first = made c.add_role-in-loop-junior.result c.expect-in-loop-junior.ensures c.add_role-in-loop-junior.ensures.added in
    let second = made c.add_role-in-loop-junior-2.result c.expect-in-loop-junior-2.ensures c.add_role-in-loop-junior-2.ensures.added in
    rw (ap (λ h. h.roles) second, ap (λ h. h.roles) first) (added_before c.name-boss.result c.name-junior.result c.loop-junior.hierarchy.content.roles)

pub declare-requires-clause-descendant : goal.declare-requires-clause-descendant
declare-requires-clause-descendant g c =
    let second = made c.add_role-in-loop-junior-2.result c.expect-in-loop-junior-2.ensures c.add_role-in-loop-junior-2.ensures.added in
    rw (ap (λ h. h.roles) second) (added_itself c.name-junior.result c.add_role-in-loop-junior.new.self.content.roles)
