use Rattle.sorted_keys.specs.Keys.{by_key}
use Rattle.std.proofs.Common.{refl}
use Rattle.sorted_keys.proofs.Order.{sorted_none}
use Rattle.hashed_keys.proofs.map.HashedMap.new.Goals as goal

pub invariant_of-result : goal.invariant_of-result
invariant_of-result g c = rw (c.new.ensures.empty, c.new-2.ensures.items) (record { once = λ p. refl; in_order = sorted_none (by_key g.K.Ord.cmp) })
