use Rattle.std.proofs.Common.{◌≡◌, ◌||◌, ◌&&◌, ◌<◌, ◌-◌, ℕ, Bool, length, take}
use Rattle.sorted_keys.specs.Keys.{has}
use Rattle.rbac_terms.specs.Name.{Name, name_cmp}
use Rattle.rbac_hierarchy.specs.Numbers.{role_at}
use Rattle.rbac_hierarchy.proofs.bit_order.numbers.with_roles_where.Given as goal

abbrev pub invariant-loop-number : goal.invariant-loop-number
invariant-loop-number g l = (p : Name → Bool) → ((i : ℕ) → i < length l.roles → g.T.NumberedTest.passes l.test i (role_at l.roles i) ≡ p (role_at l.roles i))
    → (r : Name) → has name_cmp r l.more ≡ (has name_cmp r l.fn.names || (p r && has name_cmp r (take l.number l.roles)))

abbrev pub decreases-loop-number : goal.decreases-loop-number
decreases-loop-number g l = length l.roles - l.number
