use Rattle.std.proofs.Common.{◌≡◌, ◌++◌, codes, take}
use Rattle.std.specs.List.{flat_map, AllByRecursion as Each}
use Rattle.rbac_text.proofs.arrays.put_others.Given as goal

-- the elements so far, each behind a comma
abbrev pub invariant-loop-element : goal.invariant-loop-element
invariant-loop-element g l =
    (l.text.items ≡ l.fn.text.items ++ flat_map (λ element. codes "," ++ g.E.Element.shown element) (take l.element-index l.others)) × Each g.E.Element.Fits (take l.element-index l.others)
