-- Who is assigned one of some roles, and what is granted to one of them, where these are the seniors of a role, its juniors, the
-- roles that a user is authorized for or those that a session inherits.
use Rattle.std.proofs.Common.{◌≡◌, Bool, true, false, cond, ◌||◌, ◌&&◌, List, [], ◌∷◌, Result, Ok, Err, IfOk, refl, sym, ap, ◌∙◌}
use Rattle.std.specs.List.{list_any, filter}
use Rattle.std.specs.List.Sorted.{IsStrictlySortedBy}
use Rattle.std.specs.Ordering.{eq_by_cmp}
use Rattle.std.proofs.lemmas.Bool.{and_parts, and_from}
use Rattle.std.proofs.lemmas.List.Kept.{IsStrictlySortedBy-filter}
use Rattle.sorted_keys.specs.Keys.{has}
use Rattle.sorted_keys.proofs.Members.{has-filter, same_keys}
use Rattle.sorted_keys.proofs.Lists.{any-same, filter-same}
use Rattle.rbac_terms.specs.Name.{Name, Permission, Grant, name_cmp, pair_cmp}
use Rattle.rbac_terms.specs.State.{State}
use Rattle.rbac_terms.specs.Inheritance.{inherits, juniors, seniors}
use Rattle.rbac_terms.specs.Relations.{begins_with, roles_of}
use Rattle.rbac_terms.specs.Authorization.{inherits_in, is_authorized, has_permission}
use Rattle.rbac_terms.specs.Reviews.{authorized_roles, role_permissions, permissions_of, user_permissions, operations_on}
use Rattle.sorted_keys.proofs.Ties.{same_bits, any_member, member_any, one_key, ties-pair}
use Rattle.rbac_terms.proofs.NameLemmas.{names_total, names_exact, pairs_exact, grants_total, grants_exact}
use Rattle.rbac_rules.proofs.InheritanceLemmas.{inherits_iff, joined, chain_end}
use Rattle.rbac_rules.proofs.AuthorizationLemmas.{is_authorized_iff}
use Rattle.rbac_hierarchy.proofs.JuniorLemmas.{has_juniors, between_roles}
use Rattle.rbac_review.specs.Among.{is_assigned_one, is_granted_to_one}

-- what is made equal to one value is equal to another that this is equal to
pub if_same : {X E : Type 0} {x y : X} → x ≡ y → (r : Result X E) → IfOk r (λ z. z ≡ x) → IfOk r (λ z. z ≡ y)
if_same same (Ok z) is = is ∙ same
if_same same (Err e) is = tt

module _ {X : Type 0} where
  pub any-filter : (p q : X → Bool) (xs : List X) → list_any q (filter p xs) ≡ list_any (λ x. p x && q x) xs
  any-filter p q [] = refl
  any-filter p q (x ∷ xs) = go (p x) (any-filter p q xs)
    where
      go : (b : Bool) → list_any q (filter p xs) ≡ list_any (λ y. p y && q y) xs → list_any q (cond b (x ∷ filter p xs) (filter p xs)) ≡ ((b && q x) || list_any (λ y. p y && q y) xs)
      go true rest = ap (λ t. q x || t) rest
      go false rest = rest

  pub any-and : (p : X → Bool) (b : Bool) (xs : List X) → list_any (λ x. p x && b) xs ≡ (list_any p xs && b)
  any-and p b [] = refl
  any-and p b (x ∷ xs) = ap (λ t. (p x && b) || t) (any-and p b xs) ∙ shared (p x) (list_any p xs) b
    where
      shared : (l r b : Bool) → ((l && b) || (r && b)) ≡ ((l || r) && b)
      shared true true true = refl
      shared true true false = refl
      shared true false true = refl
      shared true false false = refl
      shared false r b = refl

-- a name more where that is a role, and none where not
pub more_where : (e h b : Bool) → b ≡ true → (e || h) ≡ (h || (e && b))
more_where e h b is = either e h ∙ ap (λ t. h || (e && t)) (sym is)
  where
    either : (e h : Bool) → (e || h) ≡ (h || (e && true))
    either true true = refl
    either true false = refl
    either false true = refl
    either false false = refl

pub none_where : (e h b : Bool) → b ≡ false → h ≡ (h || (e && b))
none_where e h b is = alone e h ∙ ap (λ t. h || (e && t)) (sym is)
  where
    alone : (e h : Bool) → h ≡ (h || (e && false))
    alone true true = refl
    alone true false = refl
    alone false true = refl
    alone false false = refl

-- a user's own pairs tell for which roles it is authorized
pub authorized_by_own : (s : State) (user : Name) (pairs : List (Name × Name)) → pairs ≡ filter (begins_with user) s.assigned
    → (role : Name) → list_any (λ pair. inherits_in s pair.1 role) pairs ≡ is_authorized s user role
authorized_by_own s user pairs own role = let above = λ (pair : Name × Name). inherits_in s pair.1 role in ap (list_any above) own ∙ any-filter (begins_with user) above s.assigned

-- a role inherits itself, and what is no role does not
pub inherits_itself : (roles : List Name) (declared : List (Name × Name)) (role : Name) → inherits roles declared role role ≡ has name_cmp role roles
inherits_itself roles declared role = same_bits _ _ (λ e. (between_roles roles declared role role e).0) (λ is. (inherits_iff roles declared role role).1 ([], (is, refl)))

-- a name is among the roles of a user's pairs where it is a role that is assigned to the user
pub among_assigned : (user q : Name) (roles : List Name) (assigned : List (Name × Name))
    → list_any (λ pair. eq_by_cmp name_cmp q pair.1 && has name_cmp pair.1 roles) (filter (begins_with user) assigned) ≡ has name_cmp q (roles_of user roles assigned)
among_assigned user q roles assigned =
    any-filter (begins_with user) (λ pair. eq_by_cmp name_cmp q pair.1 && has name_cmp pair.1 roles) assigned
    ∙ any-same (λ pair. begins_with user pair && (eq_by_cmp name_cmp q pair.1 && has name_cmp pair.1 roles)) (λ pair. eq_by_cmp pair_cmp (user, q) pair && has name_cmp q roles)
    (λ pair. one_pair pair (eq_by_cmp name_cmp user pair.0) (eq_by_cmp name_cmp q pair.1) refl ∙ ap (λ t. t && has name_cmp q roles) (sym (ties-pair name_cmp name_cmp (user, q) pair))) assigned
    ∙ any-and (λ pair. eq_by_cmp pair_cmp (user, q) pair) (has name_cmp q roles) assigned
    ∙ sym (has-filter names_exact (λ r. has pair_cmp (user, r) assigned) roles q)
  where
    one_pair : (pair : Name × Name) (a b : Bool) → eq_by_cmp name_cmp q pair.1 ≡ b → (a && (b && has name_cmp pair.1 roles)) ≡ ((a && b) && has name_cmp q roles)
    one_pair pair false b e = refl
    one_pair pair true false e = refl
    one_pair pair true true e = ap (λ r. has name_cmp r roles) (sym (one_key names_exact q pair.1 e))

-- who is authorized for it, for that one it is a role
pub authorized_for_a_role : (s : State) (user role : Name) → is_authorized s user role ≡ (has name_cmp role s.roles && is_authorized s user role)
authorized_for_a_role s user role = go (is_authorized s user role) refl
  where
    go : (b : Bool) → is_authorized s user role ≡ b → b ≡ (has name_cmp role s.roles && b)
    go true e = let a = (is_authorized_iff s user role).0 e in sym (ap (λ h. h && true) (chain_end s.roles s.declared a.0 a.2.0 role a.2.1))
    go false e = none (has name_cmp role s.roles)
      where
        none : (h : Bool) → false ≡ (h && false)
        none true = refl
        none false = refl

turned : (a b : Bool) → (a && b) ≡ (b && a)
turned true true = refl
turned true false = refl
turned false true = refl
turned false false = refl

-- among the roles that a user is authorized for are those that it is
pub has_authorized : (s : State) (user role : Name) → has name_cmp role (authorized_roles s user) ≡ is_authorized s user role
has_authorized s user role = has-filter names_exact (is_authorized s user) s.roles role ∙ turned (is_authorized s user role) (has name_cmp role s.roles) ∙ sym (authorized_for_a_role s user role)

-- names in order that are those are the roles that the user is authorized for
pub are_authorized : (s : State) (user : Name) (names : List Name) → IsStrictlySortedBy name_cmp names → IsStrictlySortedBy name_cmp s.roles
    → ((r : Name) → has name_cmp r names ≡ is_authorized s user r) → names ≡ authorized_roles s user
are_authorized s user names sorted in_order told =
    same_keys names_exact names_total names (authorized_roles s user) sorted (IsStrictlySortedBy-filter name_cmp (is_authorized s user) s.roles in_order)
    (λ r. told r ∙ sym (has_authorized s user r))

-- among the seniors of a role are those that inherit it
pub has_seniors : (roles : List Name) (declared : List (Name × Name)) (q r : Name) → has name_cmp r (seniors roles declared q) ≡ inherits roles declared r q
has_seniors roles declared q r = has-filter names_exact (λ r. inherits roles declared r q) roles r ∙ same_bits _ _ (λ both. (and_parts _ _ both).0) (λ e. and_from _ _ e (between_roles roles declared r q e).0)

-- who is assigned a senior of the role is authorized for it
pub assigned_a_senior : (s : State) (role user : Name) → is_assigned_one (seniors s.roles s.declared role) s.assigned user ≡ is_authorized s user role
assigned_a_senior s role user = any-same (λ p. eq_by_cmp name_cmp user p.0 && has name_cmp p.1 (seniors s.roles s.declared role)) (λ p. eq_by_cmp name_cmp user p.0 && inherits_in s p.1 role)
    (λ p. ap (λ b. eq_by_cmp name_cmp user p.0 && b) (has_seniors s.roles s.declared role p.1)) s.assigned

-- what is granted to a junior of the role is a permission of it
pub granted_to_a_junior : (s : State) (role : Name) (permission : Permission) → is_granted_to_one (juniors s.roles s.declared role) s.granted permission ≡ has_permission s permission role
granted_to_a_junior s role permission = any-same (λ g. eq_by_cmp pair_cmp permission g.0 && has name_cmp g.1 (juniors s.roles s.declared role)) (λ g. eq_by_cmp pair_cmp permission g.0 && inherits_in s role g.1)
    (λ g. ap (λ b. eq_by_cmp pair_cmp permission g.0 && b) (has_juniors s.roles s.declared role g.1)) s.granted

-- a permission that is granted to a role below one of these is a permission of one of these
pub granted_below : (s : State) (roles names : List Name) (permission : Permission) → ((r : Name) → has name_cmp r names ≡ list_any (λ role. inherits_in s role r) roles)
    → is_granted_to_one names s.granted permission ≡ list_any (has_permission s permission) roles
granted_below s roles names permission told = same_bits _ _ there back
  where
    granted : Grant → Bool
    granted g = eq_by_cmp pair_cmp permission g.0 && has name_cmp g.1 names

    to : Name → Grant → Bool
    to role g = eq_by_cmp pair_cmp permission g.0 && inherits_in s role g.1

    there : is_granted_to_one names s.granted permission ≡ true → list_any (has_permission s permission) roles ≡ true
    there e =
        let found = any_member grants_total grants_exact granted s.granted e in
        let both = and_parts _ _ found.2 in
        let role = any_member names_total names_exact (λ role. inherits_in s role found.0.1) roles (sym (told found.0.1) ∙ both.1) in
        member_any names_total names_exact (has_permission s permission) roles role.0 role.1
        (member_any grants_total grants_exact (to role.0) s.granted found.0 found.1 (and_from _ _ both.0 role.2))

    back : list_any (has_permission s permission) roles ≡ true → is_granted_to_one names s.granted permission ≡ true
    back e =
        let role = any_member names_total names_exact (has_permission s permission) roles e in
        let found = any_member grants_total grants_exact (to role.0) s.granted role.2 in
        let both = and_parts _ _ found.2 in
        member_any grants_total grants_exact granted s.granted found.0 found.1
        (and_from _ _ both.0 (told found.0.1 ∙ member_any names_total names_exact (λ r. inherits_in s r found.0.1) roles role.0 role.1 both.1))

-- a role that one of the roles that a user is authorized for inherits is one of them
pub authorized_below : (s : State) (user r : Name) → has name_cmp r (authorized_roles s user) ≡ list_any (λ role. inherits_in s role r) (authorized_roles s user)
authorized_below s user r = same_bits _ _ there back
  where
    there : has name_cmp r (authorized_roles s user) ≡ true → list_any (λ role. inherits_in s role r) (authorized_roles s user) ≡ true
    there e =
        let a = (is_authorized_iff s user r).0 (sym (has_authorized s user r) ∙ e) in
        member_any names_total names_exact (λ role. inherits_in s role r) (authorized_roles s user) r e
        ((inherits_iff s.roles s.declared r r).1 ([], (chain_end s.roles s.declared a.0 a.2.0 r a.2.1, refl)))

    back : list_any (λ role. inherits_in s role r) (authorized_roles s user) ≡ true → has name_cmp r (authorized_roles s user) ≡ true
    back e =
        let role = any_member names_total names_exact (λ role. inherits_in s role r) (authorized_roles s user) e in
        let a = (is_authorized_iff s user role.0).0 (sym (has_authorized s user role.0) ∙ role.1) in
        has_authorized s user r ∙ (is_authorized_iff s user r).1 (a.0, a.1, joined s.roles s.declared a.0 role.0 r a.2 ((inherits_iff s.roles s.declared role.0 r).0 role.2))

-- ---- What is listed of these

pub role_listed : (s : State) (role : Name) (names : List Name) → names ≡ juniors s.roles s.declared role → filter (is_granted_to_one names s.granted) s.vocabulary.permissions ≡ role_permissions s role
role_listed s role names are =
    ap (λ ns. filter (is_granted_to_one ns s.granted) s.vocabulary.permissions) are
    ∙ filter-same (is_granted_to_one (juniors s.roles s.declared role) s.granted) (λ permission. has_permission s permission role) (granted_to_a_junior s role) s.vocabulary.permissions

pub roles_listed : (s : State) (roles names : List Name) → ((r : Name) → has name_cmp r names ≡ list_any (λ role. inherits_in s role r) roles)
    → filter (is_granted_to_one names s.granted) s.vocabulary.permissions ≡ permissions_of s roles
roles_listed s roles names told =
    filter-same (is_granted_to_one names s.granted) (λ permission. list_any (has_permission s permission) roles) (λ permission. granted_below s roles names permission told) s.vocabulary.permissions

pub user_listed : (s : State) (user : Name) (names : List Name) → names ≡ authorized_roles s user → filter (is_granted_to_one names s.granted) s.vocabulary.permissions ≡ user_permissions s user
user_listed s user names are =
    ap (λ ns. filter (is_granted_to_one ns s.granted) s.vocabulary.permissions) are
    ∙ roles_listed s (authorized_roles s user) (authorized_roles s user) (authorized_below s user)

-- the operations on an object that pass and are permissions are those among the permissions that pass
pub operations_listed : (object : Name) (passes : Permission → Bool) (permissions : List Permission) (operations : List Name)
    → filter (λ operation. passes (operation, object) && has pair_cmp (operation, object) permissions) operations ≡ operations_on object (filter passes permissions) operations
operations_listed object passes permissions operations =
    filter-same (λ operation. passes (operation, object) && has pair_cmp (operation, object) permissions) (λ operation. has pair_cmp (operation, object) (filter passes permissions))
    (λ operation. sym (has-filter pairs_exact passes permissions (operation, object))) operations
