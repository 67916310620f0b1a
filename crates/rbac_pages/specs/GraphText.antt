-- The roles of a policy as a graph in the language of Graphviz: a node for each role, an edge for each declared pair, and nothing
-- else. A name stands in quotes, and none of its bytes has to be escaped.
use Rattle.std.specs.Prelude.{ℕ, List, ◌++◌, codes}
use Rattle.std.specs.List.{flat_map}
use Rattle.rbac_terms.specs.Name.{Name}
use Rattle.rbac_terms.specs.State.{State}

--   "boss";
abbrev pub node_text : Name → List ℕ
node_text role = codes "  \"" ++ role ++ codes "\";\n"

--   "boss" -> "clerk"; the ascendant inherits the descendant
abbrev pub edge_text : Name × Name → List ℕ
edge_text pair = codes "  \"" ++ pair.0 ++ codes "\" -> \"" ++ pair.1 ++ codes "\";\n"

abbrev pub graph_text : State → List ℕ
graph_text s =
    codes "digraph roles {\n  node [shape=box];\n"
    ++ flat_map node_text s.roles
    ++ flat_map edge_text s.declared
    ++ codes "}\n"
