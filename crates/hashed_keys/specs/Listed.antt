-- Values at places that stay, listed in an order of the places.
use Rattle.std.specs.Prelude.{ℕ, ◌≡◌, ◌==◌, List, filter_map, count_by, is_some, if◌then◌else◌}
use Rattle.std.specs.declared.cmp.Ordering.{Ordering}
use Rattle.std.specs.declared.cmp.Ordering.TheVariants.{Less}
use Rattle.std.specs.Option.{option_map_or}
use Rattle.std.specs.List.Sorted.{IsStrictlySortedBy}
use Rattle.slab.specs.Slab.{Slab, get}
use Rattle.sorted_keys.specs.Keys.{by_key}

-- the values at these places, in this order
abbrev pub listed : {X : Type 0} → Slab X → List ℕ → List X
listed slots order = filter_map (get slots) order

-- how often a place stands in the order
abbrev pub times : ℕ → List ℕ → ℕ
times place order = count_by (λ p. p == place) order

-- each place that has an entry stands in the order once, and no other place, and the order is that of the keys
pub record IsListed {K X : Type 0} (R : K → K → Ordering) (slots : Slab (K × X)) (order : List ℕ) : Type 0 where
  pub once : (place : ℕ) → times place order ≡ (if is_some (get slots place) then 1 else 0)
  pub in_order : IsStrictlySortedBy (by_key R) (listed slots order)

-- how the key at a place stands to one that is sought, as before it where there is none
abbrev pub order_at : {K X : Type 0} (R : K → K → Ordering) → K → Slab (K × X) → ℕ → Ordering
order_at R k slots place = option_map_or (λ e. R e.0 k) (get slots place) Less
