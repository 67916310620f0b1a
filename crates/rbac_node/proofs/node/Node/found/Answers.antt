use Rattle.std.proofs.Common.{rules}
use Rattle.rbac_node.proofs.FoundLemmas.{nothing_taken_by}
use Rattle.rbac_node.proofs.node.Node.found.Goals as goal

pub invariant_of-result : goal.invariant_of-result
invariant_of-result g c = record {
  group = search rules;
  vocabulary = search rules;
  shown = record {
    sent = search rules;
    history = search rules;
    reads = λ k other. nothing_taken_by c.in-Ok.member c.args.group c.args.number c.args.vocabulary c.in-Ok.ensures.founded k _ other.number;
    callers = search rules;
  };
  sent = search rules;
  history = search rules;
  reads = search rules;
}
