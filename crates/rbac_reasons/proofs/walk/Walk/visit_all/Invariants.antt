use Rattle.std.proofs.Common.{◌≡◌, drop}
use Rattle.rbac_reasons.specs.Walk.{all_visited}
use Rattle.rbac_reasons.proofs.walk.Walk.visit_all.Given as goal

abbrev pub invariant-loop-pair : goal.invariant-loop-pair
invariant-loop-pair l = all_visited l.pairs l.fn.self ≡ all_visited (drop l.pair-index l.pairs) l.self
