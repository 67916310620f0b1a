use Rattle.std.proofs.Common.{arith}
use Rattle.sorted_keys.specs.Keys.{has}
use Rattle.sorted_keys.proofs.Members.{has-filter}
use Rattle.rbac_terms.specs.Name.{grant_cmp}
use Rattle.rbac_terms.proofs.NameLemmas.{pairs_exact}
use Rattle.rbac_reasons.proofs.AuthorizedLemmas.{if_ok}
use Rattle.rbac_reasons.proofs.lists.permissions_of.Goals as goal

pub returns-clause-listed : goal.returns-clause-listed
returns-clause-listed c = if_ok c.permissions_where.result (λ _ h. rw c.vocabulary.ensures at h) c.permissions_where.ensures

-- each permission that is granted is one of the founding's
pub returns-clause-granted : goal.returns-clause-granted
returns-clause-granted c =
    let s = c.args.policy.now in
    let role = c.args.role.now in
    let kept = has-filter pairs_exact (λ p. has grant_cmp (p, role) s.granted) s.vocabulary.permissions in
    if_ok c.permissions_where.result
    (λ _ h permission. grind (arith, h, c.vocabulary.ensures, kept permission, c.invariants.ensures.references.granted permission role))
    c.permissions_where.ensures
