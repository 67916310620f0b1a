use Rattle.std.proofs.Common.{◌≡◌, take}
use Rattle.rbac_words.specs.Play.{IsPrefixOf}
use Rattle.rbac_board.specs.Known.{IsOf}
use Rattle.rbac_node.proofs.publishing.publish_all.Given as goal

abbrev pub invariant-loop-place : goal.invariant-loop-place
invariant-loop-place g l = record {
  of : IsOf l.row l.mark;
  known : l.mark.values ≡ take l.place l.items;
  goes_on : IsPrefixOf l.fn.mark.values l.mark.values;
}
