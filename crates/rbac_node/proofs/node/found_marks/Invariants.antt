use Rattle.std.proofs.Common.{◌≡◌, map, []}
use Rattle.std.specs.Prelude.{replicate}
use Rattle.rbac_node.specs.Inside.{AreReads}
use Rattle.rbac_node.proofs.node.found_marks.Given as goal

abbrev pub invariant-loop-place : goal.invariant-loop-place
invariant-loop-place l = record {
  reads : AreReads l.rows l.place l.marks.items;
  nothing : map (λ m. m.values) l.marks.items ≡ replicate l.place [];
}
