use Rattle.std.proofs.Common.{◌∙◌, sym, ap, not}
use Rattle.rbac_decide.proofs.Common.{without_member}
use Rattle.rbac_decide.proofs.SeparationLemmas.{updated_sized}
use Rattle.rbac_decide.proofs.policy.Policy.removal_sizes_badly.Goals as goal

pub returns : goal.returns
returns c =
    ap not c.is_well_sized_without.ensures ∙ sym (updated_sized c.args.kind c.args.set.now (without_member c.args.role.now) c.args.self.now c.invariants.ensures c.requires.set)
