use Rattle.std.proofs.Common.{◌≡◌, ◌&&◌, ◌||◌, take}
use Rattle.sorted_keys.specs.Keys.{has}
use Rattle.rbac_terms.specs.Name.{Name, name_cmp}
use Rattle.rbac_reasons.proofs.authorized.among.Given as goal

abbrev pub invariant-loop-name : goal.invariant-loop-name
invariant-loop-name l = (q : Name) → has name_cmp q l.kept ≡ ((has name_cmp q l.these || has name_cmp q l.those) && has name_cmp q (take l.name-index l.name-items))
