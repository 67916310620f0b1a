use Rattle.std.proofs.Common.{◌∙◌, ◌&&◌, nat_le, sym, ap, not}
use Rattle.rbac_decide.proofs.SeparationLemmas.{put_sized}
use Rattle.rbac_decide.proofs.policy.Policy.creation_sizes_badly.Goals as goal

pub returns : goal.returns
returns c =
    ap not (c.is_well_sized.ensures ∙ ap (λ roles. nat_le 2 c.args.n && nat_le c.args.n roles) c.len.ensures) ∙ sym (put_sized c.args.kind c.args.set.now (record { roles = c.args.roles.now; cardinality = c.args.n }) c.args.self.now c.invariants.ensures)
