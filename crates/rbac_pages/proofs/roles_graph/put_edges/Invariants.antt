use Rattle.std.proofs.Common.{◌≡◌, ◌++◌, take}
use Rattle.std.specs.List.{flat_map}
use Rattle.rbac_pages.specs.GraphText.{edge_text}
use Rattle.rbac_pages.proofs.roles_graph.put_edges.Given as goal

-- the pairs so far
abbrev pub invariant-loop-pair : goal.invariant-loop-pair
invariant-loop-pair l = l.text.items ≡ l.fn.text.items ++ flat_map edge_text (take l.pair-index l.pairs)
