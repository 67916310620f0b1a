use Rattle.std.proofs.Common.{List, length, IsTrue, reverse}
use Rattle.sorted_keys.specs.Keys.{has}
use Rattle.rbac_terms.specs.Name.{Name, name_cmp}
use Rattle.rbac_reasons.specs.Walk.{IsTrail, found_by}
use Rattle.rbac_reasons.proofs.WalkLemmas.{IsBack}
use Rattle.rbac_reasons.proofs.walk.chain_to.Given as goal

abbrev pub invariant-loop-ascendant : goal.invariant-loop-ascendant
invariant-loop-ascendant l =
    (starts : List Name) (declared : List (Name × Name)) → IsTrail starts declared (reverse l.fn.pairs.items) → IsTrue (has name_cmp l.fn.last (found_by starts (reverse l.fn.pairs.items)))
    → IsBack starts declared l.fn.last l.pairs.items l.first l.rest.items

abbrev pub decreases-loop-ascendant : goal.decreases-loop-ascendant
decreases-loop-ascendant l = length l.pairs.items
