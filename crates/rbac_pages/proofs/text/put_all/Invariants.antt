use Rattle.std.proofs.Common.{◌≡◌, ◌++◌, take}
use Rattle.std.specs.List.{flat_map}
use Rattle.rbac_pages.proofs.text.put_all.Given as goal

-- the things so far
abbrev pub invariant-loop-thing : goal.invariant-loop-thing
invariant-loop-thing g l = l.list.items ≡ l.fn.list.items ++ flat_map (g.L.Teller.told_of l.teller) (take l.thing-index l.things)
