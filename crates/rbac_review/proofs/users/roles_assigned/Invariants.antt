use Rattle.std.proofs.Common.{◌≡◌, ◌&&◌, take}
use Rattle.std.specs.List.{list_any}
use Rattle.std.specs.Ordering.{eq_by_cmp}
use Rattle.sorted_keys.specs.Keys.{has}
use Rattle.rbac_terms.specs.Name.{Name, name_cmp}
use Rattle.rbac_review.proofs.users.roles_assigned.Given as goal

abbrev pub invariant-loop-pair : goal.invariant-loop-pair
invariant-loop-pair l = (r : Name) → has name_cmp r l.roles ≡ list_any (λ (pair : Name × Name). eq_by_cmp name_cmp r pair.1 && has name_cmp pair.1 l.hierarchy.content.roles) (take l.pair-index l.assignments)
