-- Who has one of the roles that have a permission.
use Rattle.std.proofs.Common.{ℕ, zero, suc, ◌<◌, ◌+◌, ◌≡◌, Bool, true, false, cond, ◌||◌, ◌&&◌, List, [], ◌∷◌, length, map, take, Option, Some, None, is_some, refl, sym, ap, ◌∙◌, add-one, arith}
use Rattle.std.specs.List.{list_any, filter, slice_get}
use Rattle.std.specs.List.Sorted.{IsStrictlySortedBy}
use Rattle.std.specs.Option.{option_and_then}
use Rattle.std.specs.Ordering.{eq_by_cmp}
use Rattle.std.specs.FinMap.Entries.{find}
use Rattle.std.proofs.lemmas.Bool.{and_parts, and_from}
use Rattle.sorted_keys.specs.Keys.{has, by_key}
use Rattle.sorted_keys.proofs.Lists.{any-same, filter-same}
use Rattle.sorted_keys.proofs.Lookups.{find-filter}
use Rattle.sorted_keys.proofs.Members.{has-filter}
use Rattle.sorted_keys.proofs.Ties.{same_bits, any_member, member_any, one_key}
use Rattle.rbac_terms.specs.Name.{Name, Permission, Grant, name_cmp, pair_cmp}
use Rattle.rbac_terms.specs.State.{State, Session}
use Rattle.rbac_terms.specs.Authorization.{inherits_in, is_authorized, has_permission}
use Rattle.rbac_terms.specs.Reviews.{active_in, authorized_roles, permissions_of, user_permissions, session_permissions}
use Rattle.rbac_terms.specs.Rows.{found_and}
use Rattle.rbac_terms.specs.Subjects.{permitted_users, permitted_sessions, session_names}
use Rattle.rbac_terms.proofs.NameLemmas.{names_total, names_exact, pairs_total, pairs_exact, grants_total, grants_exact}
use Rattle.rbac_rules.proofs.InheritanceLemmas.{inherits_iff, joined}
use Rattle.rbac_rolesets.proofs.GrantLemmas.{any_granted}
use Rattle.rbac_hierarchy.proofs.EntryLemmas.{found_among}
use Rattle.rbac_hierarchy.proofs.JuniorLemmas.{between_roles}
use Rattle.rbac_hierarchy.proofs.LoopLemmas.{or_nothing}
use Rattle.rbac_review.specs.Among.{is_assigned_one, is_at_work}
use Rattle.rbac_review.proofs.ReviewLemmas.{any-filter, has_authorized, inherits_itself}

-- ---- The roles that have a permission

-- whether a grant is of the permission, and to a role that this one inherits
abbrev is_by : State → Permission → Name → Grant → Bool
is_by s permission role g = eq_by_cmp pair_cmp permission g.0 && inherits_in s role g.1

-- what has a permission is a role
has_as_role : (s : State) (permission : Permission) (role : Name) → has_permission s permission role ≡ true → has name_cmp role s.roles ≡ true
has_as_role s permission role e =
    let grant = any_member grants_total grants_exact (is_by s permission role) s.granted e in
    (between_roles s.roles s.declared role grant.0.1 (and_parts _ _ grant.2).1).0

-- what a role has, its seniors have
seniors_have : (s : State) (permission : Permission) (senior junior : Name) → inherits_in s senior junior ≡ true → has_permission s permission junior ≡ true → has_permission s permission senior ≡ true
seniors_have s permission senior junior above e =
    let grant = any_member grants_total grants_exact (is_by s permission junior) s.granted e in
    let both = and_parts _ _ grant.2 in
    let inherited = joined s.roles s.declared senior junior grant.0.1 ((inherits_iff s.roles s.declared senior junior).0 above) ((inherits_iff s.roles s.declared junior grant.0.1).0 both.1) in
    member_any grants_total grants_exact (is_by s permission senior) s.granted grant.0 grant.1 (and_from _ _ both.0 ((inherits_iff s.roles s.declared senior grant.0.1).1 inherited))

-- the roles that inherit one that the permission is granted to are those that have it
pub heirs_have : (s : State) (permission : Permission) (grants : List Name) → grants ≡ map (λ grant. grant.1) (filter (λ grant. eq_by_cmp pair_cmp permission grant.0) s.granted)
    → (r : Name) → has name_cmp r (filter (λ role. list_any (inherits_in s role) grants) s.roles) ≡ has_permission s permission r
heirs_have s permission grants are r =
    has-filter names_exact (λ role. list_any (inherits_in s role) grants) s.roles r
    ∙ ap (λ gs. list_any (inherits_in s r) gs && has name_cmp r s.roles) are
    ∙ ap (λ t. t && has name_cmp r s.roles) (any_granted (inherits_in s r) permission s.granted)
    ∙ same_bits _ _ (λ both. (and_parts _ _ both).0) (λ e. and_from _ _ e (has_as_role s permission r e))

-- ---- Users

module _ (s : State) (permission : Permission) (names : List Name) (told : (r : Name) → has name_cmp r names ≡ has_permission s permission r) where
  -- a user is assigned a role that has the permission just where it is authorized for one
  assigned_where_authorized : (user : Name) → is_assigned_one names s.assigned user ≡ list_any (has_permission s permission) (authorized_roles s user)
  assigned_where_authorized user = same_bits _ _ there back
    where
      assigned : Name × Name → Bool
      assigned p = eq_by_cmp name_cmp user p.0 && has name_cmp p.1 names

      above : Name → Name × Name → Bool
      above role p = eq_by_cmp name_cmp user p.0 && inherits_in s p.1 role

      there : is_assigned_one names s.assigned user ≡ true → list_any (has_permission s permission) (authorized_roles s user) ≡ true
      there e =
          let pair = any_member pairs_total pairs_exact assigned s.assigned e in
          let both = and_parts _ _ pair.2 in
          let holds = sym (told pair.0.1) ∙ both.1 in
          let itself = inherits_itself s.roles s.declared pair.0.1 ∙ has_as_role s permission pair.0.1 holds in
          member_any names_total names_exact (has_permission s permission) (authorized_roles s user) pair.0.1
          (has_authorized s user pair.0.1 ∙ member_any pairs_total pairs_exact (above pair.0.1) s.assigned pair.0 pair.1 (and_from _ _ both.0 itself)) holds

      back : list_any (has_permission s permission) (authorized_roles s user) ≡ true → is_assigned_one names s.assigned user ≡ true
      back e =
          let role = any_member names_total names_exact (has_permission s permission) (authorized_roles s user) e in
          let pair = any_member pairs_total pairs_exact (above role.0) s.assigned (sym (has_authorized s user role.0) ∙ role.1) in
          let both = and_parts _ _ pair.2 in
          member_any pairs_total pairs_exact assigned s.assigned pair.0 pair.1
          (and_from _ _ both.0 (told pair.0.1 ∙ seniors_have s permission pair.0.1 role.0 both.1 role.2))

-- ---- Sessions

-- the entries that pass, by their names
and_is : (work : Session → Bool) (o : Option Session) → is_some (option_and_then (λ x. cond (work x) (Some x) None) o) ≡ (found_and work o && is_some o)
and_is work None = refl
and_is work (Some x) = go (work x)
  where
    go : (b : Bool) → is_some (cond b (Some x) None) ≡ (b && true)
    go true = refl
    go false = refl

turned : (a b : Bool) → (a && b) ≡ (b && a)
turned true true = refl
turned true false = refl
turned false true = refl
turned false false = refl

any-map : {X Y : Type 0} (f : X → Y) (p : Y → Bool) (xs : List X) → list_any p (map f xs) ≡ list_any (λ x. p (f x)) xs
any-map f p [] = refl
any-map f p (x ∷ xs) = ap (λ t. p (f x) || t) (any-map f p xs)

pub session_named : (work : Session → Bool) (sessions : List (Name × Session)) (q : Name) → IsStrictlySortedBy (by_key name_cmp) sessions
    → list_any (λ e. eq_by_cmp name_cmp q e.0 && work e.1) sessions ≡ has name_cmp q (filter (λ name. found_and work (find name_cmp name sessions)) (map (λ e. e.0) sessions))
session_named work sessions q sorted =
    let passes = λ (e : Name × Session). work e.1 in
    let passing = filter passes sessions in
    any-same (λ (e : Name × Session). eq_by_cmp name_cmp q e.0 && work e.1) (λ (e : Name × Session). work e.1 && eq_by_cmp name_cmp q e.0) (λ e. turned (eq_by_cmp name_cmp q e.0) (work e.1)) sessions
    ∙ sym (any-filter passes (λ e. eq_by_cmp name_cmp q e.0) sessions)
    ∙ sym (any-map (λ (e : Name × Session). e.0) (eq_by_cmp name_cmp q) passing)
    ∙ sym (found_among name_cmp q passing)
    ∙ ap is_some (find-filter name_cmp names_exact passes sessions q sorted)
    ∙ and_is work (find name_cmp q sessions)
    ∙ ap (λ t. found_and work (find name_cmp q sessions) && t) (found_among name_cmp q sessions)
    ∙ sym (has-filter names_exact (λ name. found_and work (find name_cmp name sessions)) (map (λ e. e.0) sessions) q)

-- up to a place, and what stands there
pub at_place : {X : Type 0} (p : X → Bool) (xs : List X) (i : ℕ) → i < length xs → (list_any p (take i xs) || found_and p (slice_get xs i)) ≡ list_any p (take (i + 1) xs)
at_place {X = X} p xs i lt = go xs i lt ∙ ap (λ n. list_any p (take n xs)) (sym (add-one i))
  where
    grouped : (a b c : Bool) → ((a || b) || c) ≡ (a || (b || c))
    grouped true b c = refl
    grouped false b c = refl

    go : (xs : List X) (i : ℕ) → i < length xs → (list_any p (take i xs) || found_and p (slice_get xs i)) ≡ list_any p (take (suc i) xs)
    go [] i lt = absurd (omega arith)
    go (x ∷ xs) zero lt = or_nothing (p x)
    go (x ∷ xs) (suc i) lt = grouped (p x) (list_any p (take i xs)) (found_and p (slice_get xs i)) ∙ ap (λ t. p x || t) (go xs i (omega arith))

-- ---- What is listed of these

-- whether a permission is among those of some roles
permitted : (s : State) (permission : Permission) (roles : List Name) → has pair_cmp permission s.vocabulary.permissions ≡ true
    → has pair_cmp permission (permissions_of s roles) ≡ list_any (has_permission s permission) roles
permitted s permission roles known =
    has-filter pairs_exact (λ p. list_any (has_permission s p) roles) s.vocabulary.permissions permission
    ∙ ap (λ t. list_any (has_permission s permission) roles && t) known ∙ turned (list_any (has_permission s permission) roles) true

-- nothing is among the permissions that is none
none_permitted : (s : State) (permission : Permission) (roles : List Name) → has pair_cmp permission s.vocabulary.permissions ≡ false → has pair_cmp permission (permissions_of s roles) ≡ false
none_permitted s permission roles unknown =
    has-filter pairs_exact (λ p. list_any (has_permission s p) roles) s.vocabulary.permissions permission
    ∙ ap (λ t. list_any (has_permission s permission) roles && t) unknown ∙ turned (list_any (has_permission s permission) roles) false

module _ {X : Type 0} where
  filter-nothing : (p : X → Bool) (xs : List X) → ((x : X) → p x ≡ false) → filter p xs ≡ []
  filter-nothing p xs fails = filter-same p (λ _. false) fails xs ∙ nothing xs
    where
      nothing : (xs : List X) → filter (λ _. false) xs ≡ []
      nothing [] = refl
      nothing (x ∷ xs) = nothing xs

pub no_users : (s : State) (permission : Permission) → has pair_cmp permission s.vocabulary.permissions ≡ false → [] ≡ permitted_users s permission
no_users s permission unknown =
    sym (filter-nothing (λ user. has pair_cmp permission (user_permissions s user)) s.users (λ user. none_permitted s permission (authorized_roles s user) unknown))

pub no_sessions : (s : State) (permission : Permission) → has pair_cmp permission s.vocabulary.permissions ≡ false → [] ≡ permitted_sessions s permission
no_sessions s permission unknown =
    sym (filter-nothing (λ session. has pair_cmp permission (session_permissions s session)) (session_names s) (λ session. none_permitted s permission (active_in (find name_cmp session s.sessions)) unknown))

module _ (s : State) (permission : Permission) (names : List Name) (told : (r : Name) → has name_cmp r names ≡ has_permission s permission r) (known : has pair_cmp permission s.vocabulary.permissions ≡ true) where
  pub users_listed : filter (is_assigned_one names s.assigned) s.users ≡ permitted_users s permission
  users_listed =
      filter-same (is_assigned_one names s.assigned) (λ user. has pair_cmp permission (user_permissions s user))
      (λ user. assigned_where_authorized s permission names told user ∙ sym (permitted s permission (authorized_roles s user) known)) s.users

  at_work : (o : Option Session) → found_and (is_at_work names) o ≡ list_any (has_permission s permission) (active_in o)
  at_work None = refl
  at_work (Some x) = any-same (λ role. has name_cmp role names) (has_permission s permission) told x.active

  pub sessions_listed : filter (λ name. found_and (is_at_work names) (find name_cmp name s.sessions)) (session_names s) ≡ permitted_sessions s permission
  sessions_listed =
      filter-same (λ name. found_and (is_at_work names) (find name_cmp name s.sessions)) (λ session. has pair_cmp permission (session_permissions s session))
      (λ name. at_work (find name_cmp name s.sessions) ∙ sym (permitted s permission (active_in (find name_cmp name s.sessions)) known)) (session_names s)
