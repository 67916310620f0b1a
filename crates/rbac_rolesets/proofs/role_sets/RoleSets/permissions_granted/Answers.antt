use Rattle.std.proofs.Common.{◌≡◌, ◌&&◌, IfOk, subst}
use Rattle.std.specs.List.{list_any}
use Rattle.std.specs.Ordering.{eq_by_cmp}
use Rattle.sorted_keys.proofs.Lists.{filter-same}
use Rattle.hashed_keys.specs.Pairs.{seconds}
use Rattle.hashed_keys.proofs.PairSeconds.{any-seconds}
use Rattle.rbac_terms.specs.Name.{Grant, pair_cmp}
use Rattle.rbac_rolesets.proofs.role_sets.RoleSets.permissions_granted.Goals as goal

pub returns : goal.returns
returns g c =
    let passes = g.T.KeyTest.passes c.args.test.now in
    let granted = c.args.self.now.content.granted in
    let same = filter-same (λ permission. list_any passes (seconds pair_cmp permission granted)) (λ permission. list_any (λ (grant : Grant). eq_by_cmp pair_cmp permission grant.0 && passes grant.1) granted)
    (λ permission. any-seconds pair_cmp passes permission granted) c.args.vocabulary.now.permissions in
    subst (λ listed. IfOk c.permissions_where.result (λ permissions. permissions ≡ listed)) same c.permissions_where.ensures
