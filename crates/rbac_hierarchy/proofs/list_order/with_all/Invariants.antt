use Rattle.std.proofs.Common.{◌≡◌, ◌||◌, take}
use Rattle.sorted_keys.specs.Keys.{has}
use Rattle.rbac_terms.specs.Name.{Name, name_cmp}
use Rattle.rbac_hierarchy.proofs.list_order.with_all.Given as goal

abbrev pub invariant-loop-name : goal.invariant-loop-name
invariant-loop-name l = (r : Name) → has name_cmp r l.more ≡ (has name_cmp r l.fn.names || has name_cmp r (take l.name-index l.added))
