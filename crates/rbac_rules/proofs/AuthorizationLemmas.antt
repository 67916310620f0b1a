-- The tests of authorization and of holding a permission tell what they should.
use Rattle.std.proofs.Common.{Bool, true, ◌&&◌, ◌≡◌, IsTrue, ◌↔◌, sym, subst}
use Rattle.std.specs.List.{list_any}
use Rattle.std.specs.Ordering.{eq_by_cmp}
use Rattle.std.proofs.lemmas.Bool.{and_parts, and_from}
use Rattle.sorted_keys.specs.Keys.{has}
use Rattle.rbac_terms.specs.Name.{Name, Permission, Grant, name_cmp, pair_cmp, grant_cmp}
use Rattle.rbac_terms.specs.State.{State, Session}
use Rattle.rbac_terms.specs.Authorization.{IsAuthorized, is_authorized, Holds, holds, inherits_in}
use Rattle.sorted_keys.proofs.Ties.{one_key, ties_itself, any_member, member_any}
use Rattle.rbac_terms.proofs.NameLemmas.{names_total, names_exact, pairs_total, pairs_exact, grants_total, grants_exact}
use Rattle.rbac_rules.proofs.InheritanceLemmas.{inherits_iff}

pub is_authorized_iff : (s : State) (user role : Name) → IsTrue (is_authorized s user role) ↔ IsAuthorized s user role
is_authorized_iff s user role = (there, back)
  where
    test : Name × Name → Bool
    test p = eq_by_cmp name_cmp user p.0 && inherits_in s p.1 role

    there : IsTrue (is_authorized s user role) → IsAuthorized s user role
    there e =
        let found = any_member pairs_total pairs_exact test s.assigned e in
        let both = and_parts _ _ found.2 in
        let same = one_key names_exact user found.0.0 both.0 in
        (found.0.1, subst (λ u. has pair_cmp (u, found.0.1) s.assigned ≡ true) (sym same) found.1, (inherits_iff s.roles s.declared found.0.1 role).0 both.1)

    back : IsAuthorized s user role → IsTrue (is_authorized s user role)
    back a = member_any pairs_total pairs_exact test s.assigned (user, a.0) a.1 (and_from _ _ (ties_itself names_total user) ((inherits_iff s.roles s.declared a.0 role).1 a.2))

pub holds_iff : (s : State) (session : Session) (permission : Permission) → IsTrue (holds s session permission) ↔ Holds s session permission
holds_iff s session permission = (there, back)
  where
    test : Name → Grant → Bool
    test active g = eq_by_cmp pair_cmp permission g.0 && inherits_in s active g.1

    there : IsTrue (holds s session permission) → Holds s session permission
    there e =
        let found = any_member names_total names_exact (λ active. list_any (test active) s.granted) session.active e in
        let grant = any_member grants_total grants_exact (test found.0) s.granted found.2 in
        let both = and_parts _ _ grant.2 in
        let same = one_key pairs_exact permission grant.0.0 both.0 in
        (found.0, grant.0.1, found.1, (inherits_iff s.roles s.declared found.0 grant.0.1).0 both.1, subst (λ p. has grant_cmp (p, grant.0.1) s.granted ≡ true) (sym same) grant.1)

    back : Holds s session permission → IsTrue (holds s session permission)
    back h =
        member_any names_total names_exact (λ active. list_any (test active) s.granted) session.active h.0 h.2
        (member_any grants_total grants_exact (test h.0) s.granted (permission, h.1) h.4 (and_from _ _ (ties_itself pairs_total permission) ((inherits_iff s.roles s.declared h.0 h.1).1 h.3)))
