use Rattle.std.proofs.Common.{sym, subst, ap, ◌∙◌}
use Rattle.rbac_world.specs.Inside.{IsGroupOf, shown_by, founded_all}
use Rattle.rbac_world.proofs.WorldLemmas.{group_of, founded_group, founded_some, founded_world}
use Rattle.rbac_world.proofs.world.World.found.Goals as goal

pub invariant_of-result : goal.invariant_of-result
invariant_of-result c =
    subst IsGroupOf (sym c.in_ok-members.ensures)
    (group_of c.args.group c.args.vocabulary (founded_all c.args.group c.args.vocabulary c.args.group.members) (founded_some c.args.group c.args.vocabulary c.invariants.ensures) (founded_group c.args.group c.args.vocabulary c.invariants.ensures))

pub returns : goal.returns
returns c = ap shown_by c.in_ok-members.ensures ∙ founded_world c.args.group c.args.vocabulary c.invariants.ensures
