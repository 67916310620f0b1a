use Rattle.std.proofs.Common.{◌∙◌, ap, sym, true≢false}
use Rattle.sorted_keys.proofs.Gathered.{set_of-sorted}
use Rattle.rbac_terms.specs.Relations.{users_of}
use Rattle.rbac_terms.proofs.NameLemmas.{names_total}
use Rattle.rbac_rolesets.specs.Sets.{RoleSets}
use Rattle.rbac_rolesets.proofs.UsersWalk.{distinct, found_in_order}
use Rattle.rbac_rolesets.proofs.role_sets.RoleSets.users_of.Goals as goal

pub unreachable-requires : goal.unreachable-requires
unreachable-requires c =
    let users = c.in_ok-users.users.items in
    let sorted = found_in_order c.args.role.now c.keys.result.now c.self.inside.users.content c.keys-2.result.now users c.in_ok-users.ensures c.keys.ensures.keys c.keys.ensures.in_order in
    absurd (true≢false (sym c.in_default.ensures.repeated ∙ distinct users sorted))

pub returns : goal.returns
returns c =
    let role = c.args.role.now in
    let users = c.in_ok-users.users.items in
    let sorted = found_in_order role c.keys.result.now c.self.inside.users.content c.keys-2.result.now users c.in_ok-users.ensures c.keys.ensures.keys c.keys.ensures.in_order in
    c.of.ensures ∙ c.in-Ok.ensures.content ∙ set_of-sorted names_total users sorted ∙ c.in_ok-users.ensures
    ∙ (λ i. users_of role (c.keys.ensures.keys i) (c.keys-2.ensures.keys i))
    ∙ ap (λ (seen : RoleSets). users_of role seen.content.users seen.content.assigned) c.self.view_is
