use Rattle.std.proofs.Common.{◌≡◌, take}
use Rattle.std.specs.List.{list_any}
use Rattle.sorted_keys.specs.Keys.{has}
use Rattle.rbac_terms.specs.Name.{Name, name_cmp}
use Rattle.rbac_reasons.proofs.MemberLemmas.{ends_in}
use Rattle.rbac_reasons.proofs.pairs.seconds.Given as goal

abbrev pub invariant-loop-pair : goal.invariant-loop-pair
invariant-loop-pair g l = (name : Name) → has name_cmp name l.names ≡ list_any (ends_in g.A.Ord.cmp name) (take l.pair-index l.pair-items)
