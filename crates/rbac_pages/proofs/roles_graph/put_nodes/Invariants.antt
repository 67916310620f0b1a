use Rattle.std.proofs.Common.{◌≡◌, ◌++◌, take}
use Rattle.std.specs.List.{flat_map}
use Rattle.rbac_pages.specs.GraphText.{node_text}
use Rattle.rbac_pages.proofs.roles_graph.put_nodes.Given as goal

-- the roles so far
abbrev pub invariant-loop-role : goal.invariant-loop-role
invariant-loop-role l = l.text.items ≡ l.fn.text.items ++ flat_map node_text (take l.role-index l.roles)
