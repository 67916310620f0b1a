use Rattle.std.proofs.Common.{◌∙◌, sym, ap, not}
use Rattle.rbac_decide.proofs.Common.{with_cardinality}
use Rattle.rbac_decide.proofs.SeparationLemmas.{updated_sized}
use Rattle.rbac_decide.proofs.policy.Policy.cardinality_sizes_badly.Goals as goal

pub returns : goal.returns
returns c =
    ap not c.is_well_sized_with.ensures ∙ sym (updated_sized c.args.kind c.args.set.now (with_cardinality c.args.n) c.args.self.now c.invariants.ensures c.requires.set)
