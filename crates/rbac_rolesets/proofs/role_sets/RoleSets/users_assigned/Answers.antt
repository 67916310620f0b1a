use Rattle.std.proofs.Common.{◌&&◌, ◌∙◌, ap}
use Rattle.std.specs.List.{filter, list_any}
use Rattle.std.specs.Ordering.{eq_by_cmp}
use Rattle.rbac_terms.specs.Name.{name_cmp}
use Rattle.rbac_rolesets.specs.Sets.{RoleSets}
use Rattle.rbac_rolesets.proofs.role_sets.RoleSets.users_assigned.Goals as goal

pub returns : goal.returns
returns g c =
    let passes = g.T.KeyTest.passes c.args.test.now in
    c.of.ensures ∙ c.in_ok-users.ensures
    ∙ ap (λ (seen : RoleSets). filter (λ user. list_any (λ pair. eq_by_cmp name_cmp user pair.0 && passes pair.1) seen.content.assigned) seen.content.users) c.self.view_is
