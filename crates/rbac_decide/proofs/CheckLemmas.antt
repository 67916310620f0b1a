-- What a check reads off the grants of what it asks for.
use Rattle.std.proofs.Common.{◌≡◌, ◌≢◌, List, [], ◌∷◌, map, true, refl, sym, subst, ◌∙◌, filter}
use Rattle.rbac_decide.proofs.Common.{find, list_any, eq_by_cmp, has, inherits_in, has_permission, session_holds, Name, Permission, Grant, name_cmp, pair_cmp}
use Rattle.rbac_decide.proofs.Common.{grant_cmp, session_permissions, IsSound, State, permitted_sessions, session_names, is_listed, and_parts, or_left}
use Rattle.rbac_decide.proofs.Common.{was_kept, any-same, filter-same, one_key, ties_itself, all_member, pairs_exact, pairs_total, grants_total, grants_exact}
use Rattle.rbac_decide.proofs.Common.{holds_what_is_listed}
use Rattle.rbac_rolesets.proofs.GrantLemmas.{any_granted, has_granted}

-- the grants of a permission, and the roles that it is granted to
abbrev grants_of : State → Permission → List Grant
grants_of s permission = filter (λ grant. eq_by_cmp pair_cmp permission grant.0) s.granted

abbrev pub grants_in : State → Permission → List Name
grants_in s permission = map (λ grant. grant.1) (grants_of s permission)

-- of what something is granted, operation and object are known
known_by_grants : (s : State) (permission : Permission) (grants : List Grant) → IsSound s → grants ≡ grants_of s permission → (map (λ grant. grant.1) grants ≡ [] → ⊥)
    → (has name_cmp permission.0 s.vocabulary.operations ≡ true) × (has name_cmp permission.1 s.vocabulary.objects ≡ true)
known_by_grants s permission [] h are some = absurd (some refl)
known_by_grants s permission (grant ∷ grants) h are some = and_parts _ _ listed where
  among : has grant_cmp grant (grant ∷ grants) ≡ true
  among = or_left _ _ (ties_itself grants_total grant)

  kept : (eq_by_cmp pair_cmp permission grant.0 ≡ true) × (has grant_cmp grant s.granted ≡ true)
  kept = was_kept grants_total grants_exact (λ grant. eq_by_cmp pair_cmp permission grant.0) s.granted grant (subst (λ grants. has grant_cmp grant grants ≡ true) are among)

  is : permission ≡ grant.0
  is = one_key pairs_exact permission grant.0 kept.0

  permitted : has pair_cmp permission s.vocabulary.permissions ≡ true
  permitted = subst (λ permission. has pair_cmp permission s.vocabulary.permissions ≡ true) (sym is) (h.references.granted grant.0 grant.1 kept.1).0

  listed : is_listed s.vocabulary.operations s.vocabulary.objects permission ≡ true
  listed = all_member pairs_total pairs_exact (is_listed s.vocabulary.operations s.vocabulary.objects) s.vocabulary.permissions permission h.vocabulary.listed permitted

pub granted_is_known : (s : State) (permission : Permission) (grants : List Name) → IsSound s → grants ≡ grants_in s permission → grants ≢ []
    → (has name_cmp permission.0 s.vocabulary.operations ≡ true) × (has name_cmp permission.1 s.vocabulary.objects ≡ true)
granted_is_known s permission grants h are some = known_by_grants s permission (grants_of s permission) h refl (λ none. some (are ∙ none))

-- whether one of the roles has the permission, by the roles that it is granted to
pub has_by_grants : (s : State) (permission : Permission) (roles : List Name)
    → list_any (λ role. list_any (inherits_in s role) (grants_in s permission)) roles ≡ list_any (has_permission s permission) roles
has_by_grants s permission roles =
    any-same (λ role. list_any (inherits_in s role) (grants_in s permission)) (has_permission s permission) (λ role. any_granted (inherits_in s role) permission s.granted) roles

-- whether a role is one of those that have the permission by themselves
pub among_granted : (s : State) (permission : Permission) (role : Name) → has name_cmp role (grants_in s permission) ≡ has grant_cmp (permission, role) s.granted
among_granted s permission role = has_granted permission role s.granted

-- the sessions that a review lists a permission of are those for which a check grants it
pub checked_sessions : (s : State) (permission : Permission) → IsSound s
    → permitted_sessions s permission ≡ filter (λ session. session_holds (find name_cmp session s.sessions) s permission) (session_names s)
checked_sessions s permission h =
    filter-same (λ session. has pair_cmp permission (session_permissions s session)) (λ session. session_holds (find name_cmp session s.sessions) s permission)
    (λ session. sym (holds_what_is_listed s session permission h)) (session_names s)
