use Rattle.std.proofs.Common.{◌≡◌, drop}
use Rattle.json.specs.Value.{items_view, members_view}
use Rattle.lent_json.specs.Data as spec
use Rattle.lent_json.proofs.range.+range.Given as goal

-- what is left decides
abbrev pub invariant-are_in_range-loop-item : goal.invariant-are_in_range-loop-item
invariant-are_in_range-loop-item l = spec.are_in_range (items_view (drop l.item-index l.item-items)) ≡ spec.are_in_range (items_view l.item-items)

abbrev pub invariant-members_in_range-loop-member : goal.invariant-members_in_range-loop-member
invariant-members_in_range-loop-member l = spec.members_in_range (members_view (drop l.member-index l.member-items)) ≡ spec.members_in_range (members_view l.member-items)
