-- What separation of duty asks of the state after a change, asked of the state before it.
use Rattle.std.proofs.Common.{List, [], ◌∷◌, Bool, true, false, not, ◌||◌, ◌&&◌, ◌≡◌, Option, Some, None, is_some, refl, sym, ap, ◌∙◌, subst, ⊎_elim, arith}
use Rattle.rbac_decide.proofs.Common.{find, put, list_any, list_all, Each, option_map_or, eq_by_cmp, Ordering, has, with_key, updated, is_authorized}
use Rattle.rbac_decide.proofs.Common.{inherits_in, change, with_active, sets_of, with_sets, breaks_static, breaks_dynamic, is_violated, is_badly_sized}
use Rattle.rbac_decide.proofs.Common.{Inherits, Name, name_cmp, pair_cmp, found_and, RoleSet, is_well_sized, is_broken_by, is_broken, first_broken, IsSound}
use Rattle.rbac_decide.proofs.Common.{IsRoleSet, State, Session, AssignUser, AddInheritance, CreateSession, AddActiveRole, Separation, Static, Dynamic}
use Rattle.rbac_decide.proofs.Common.{breaks_with, breaks_below, breaks_set, or_cases, or_left, or_right, and_parts, and_from, false≢true, still, has-with_key}
use Rattle.rbac_decide.proofs.Common.{one_key, ties_itself, same_bits, any_member, member_any, names_total, names_exact, pairs_total, pairs_exact}
use Rattle.rbac_decide.proofs.Common.{is_authorized_iff, joined, inherits_iff, inherits_still, inherits_over, is_false}
use Rattle.rbac_decide.proofs.CountingLemmas.{any_alike}

-- ---- Sets

-- tests that agree break the same sets
pub breaks_same : (p q : Name → Bool) → ((r : Name) → p r ≡ q r) → (sets : List (Name × RoleSet)) → list_any (λ e. is_broken_by p e.1) sets ≡ list_any (λ e. is_broken_by q e.1) sets
breaks_same p q same sets = ap (λ t. list_any (λ e. is_broken_by t e.1) sets) (λ i r. same r i)

-- a first broken set is there where some set is broken
pub over_tells : (roles : List Name) (sets : List (Name × RoleSet)) → is_some (first_broken roles sets) ≡ list_any (λ e. is_broken roles e.1) sets
over_tells roles [] = refl
over_tells roles (e ∷ es) = grind (arith, over_tells roles es)

-- ---- One entry of a map

module _ {K X : Type 0} (R : K → K → Ordering) (p : X → Bool) where
  -- where no value passes, some passes after one is put exactly where that one does
  pub any_put : (k : K) (v : X) (es : List (K × X)) → list_any (λ e. p e.1) es ≡ false → list_any (λ e. p e.1) (put R k v es) ≡ p v
  any_put k v [] none = grind arith
  any_put k v (x ∷ xs) none = grind (arith, any_put k v xs)

  -- where all values pass, all do after one is put exactly where that one does
  all_put : (k : K) (v : X) (es : List (K × X)) → list_all (λ e. p e.1) es ≡ true → list_all (λ e. p e.1) (put R k v es) ≡ p v
  all_put k v [] all = grind arith
  all_put k v (x ∷ xs) all = grind (arith, all_put k v xs)

-- where a key is found, a change of its value puts the changed one
pub put_found : {K X : Type 0} (R : K → K → Ordering) (k : K) (f : X → X) (es : List (K × X)) (v : X) → find R k es ≡ Some v → updated R k f es ≡ put R k (f v) es
put_found R k f es v found = ap (λ o. option_map_or (λ w. put R k (f w) es) o es) found

-- ---- The sets of a kind

module _ (kind : Separation) (set : Name) (new : RoleSet) (s : State) (h : IsSound s) where
  pub put_violated : is_violated kind (with_sets kind (put name_cmp set new (sets_of kind s)) s) ≡ breaks_set kind s new
  put_violated = elim kind as (λ k. is_violated k (with_sets k (put name_cmp set new (sets_of k s)) s) ≡ breaks_set k s new) [
    | Static ↦ each (is_authorized s) s.static_sets s.users h.separation.static
    | Dynamic ↦ each (λ (x : Name × Session) r. has name_cmp r x.1.active) s.dynamic_sets s.sessions h.separation.dynamic
  ]
    where
      each : {X : Type 0} (test : X → Name → Bool) (sets : List (Name × RoleSet)) (xs : List X) → list_any (λ x. list_any (λ e. is_broken_by (test x) e.1) sets) xs ≡ false
          → list_any (λ x. list_any (λ e. is_broken_by (test x) e.1) (put name_cmp set new sets)) xs ≡ list_any (λ x. is_broken_by (test x) new) xs
      each test sets [] none = refl
      each test sets (x ∷ xs) none = grind (arith, any_put name_cmp (is_broken_by (test x)) set new sets, each test sets xs)

  pub put_sized : is_badly_sized kind (with_sets kind (put name_cmp set new (sets_of kind s)) s) ≡ not (is_well_sized new)
  put_sized = elim kind as (λ k. is_badly_sized k (with_sets k (put name_cmp set new (sets_of k s)) s) ≡ not (is_well_sized new)) [
    | Static ↦ ap not (all_put name_cmp is_well_sized set new s.static_sets (all_sized s.roles s.static_sets h.separation.static_sets.each))
    | Dynamic ↦ ap not (all_put name_cmp is_well_sized set new s.dynamic_sets (all_sized s.roles s.dynamic_sets h.separation.dynamic_sets.each))
  ]
    where
      all_sized : (roles : List Name) (sets : List (Name × RoleSet)) → Each (λ e. IsRoleSet roles e.1) sets → list_all (λ e. is_well_sized e.1) sets ≡ true
      all_sized roles [] all = refl
      all_sized roles (e ∷ es) all = and_from _ _ all.0.sized (all_sized roles es all.1)

-- the same where a set that is found is changed
pub updated_sized : (kind : Separation) (set : Name) (f : RoleSet → RoleSet) (s : State) → IsSound s → is_some (find name_cmp set (sets_of kind s)) ≡ true
    → is_badly_sized kind (with_sets kind (updated name_cmp set f (sets_of kind s)) s) ≡ not (found_and (λ x. is_well_sized (f x)) (find name_cmp set (sets_of kind s)))
updated_sized kind set f s h is = go (find name_cmp set (sets_of kind s)) refl is
  where
    go : (o : Option RoleSet) → find name_cmp set (sets_of kind s) ≡ o → is_some o ≡ true
        → is_badly_sized kind (with_sets kind (updated name_cmp set f (sets_of kind s)) s) ≡ not (found_and (λ x. is_well_sized (f x)) o)
    go None found there = absurd (false≢true there)
    go (Some old) found there = ap (λ sets. is_badly_sized kind (with_sets kind sets s)) (put_found name_cmp set f (sets_of kind s) old found) ∙ put_sized kind set (f old) s h

-- ---- Sessions

pub created_violated : (user session : Name) (roles : List Name) (s : State) → IsSound s → is_violated Dynamic (change (CreateSession user session roles) s) ≡ breaks_dynamic s (record { owner = user; active = roles })
created_violated user session roles s h = any_put name_cmp (breaks_dynamic s) session (record { owner = user; active = roles }) s.sessions h.separation.dynamic

pub activated_violated : (user session role : Name) (found : Session) (s : State) → IsSound s → find name_cmp session s.sessions ≡ Some found
    → is_violated Dynamic (change (AddActiveRole user session role) s) ≡ breaks_dynamic s (with_active role found)
activated_violated user session role found s h is =
    ap (list_any (λ e. breaks_dynamic s e.1)) (put_found name_cmp session (with_active role) s.sessions found is)
    ∙ any_put name_cmp (breaks_dynamic s) session (with_active role found) s.sessions h.separation.dynamic

-- ---- Assignments and pairs

-- a user that is one of the users
any_one : (p : Name → Bool) (xs : List Name) (k : Name) → has name_cmp k xs ≡ true → ((x : Name) → has name_cmp x xs ≡ true → eq_by_cmp name_cmp k x ≡ false → p x ≡ false) → list_any p xs ≡ p k
any_one p xs k is others = same_bits _ _
    (λ some. let found = any_member names_total names_exact p xs some in either found.0 found.1 found.2 (eq_by_cmp name_cmp k found.0) refl)
    (λ e. member_any names_total names_exact p xs k is e)
  where
    either : (x : Name) → has name_cmp x xs ≡ true → p x ≡ true → (b : Bool) → eq_by_cmp name_cmp k x ≡ b → p k ≡ true
    either x m e true same = subst (λ z. p z ≡ true) (sym (one_key names_exact k x same)) e
    either x m e false apart = absurd (false≢true (sym (others x m apart) ∙ e))

-- no user of a sound policy breaks a static set
pub unbroken : (s : State) → IsSound s → (user : Name) → has name_cmp user s.users ≡ true → breaks_static s user ≡ false
unbroken s h user is = is_false _ (λ e. false≢true (sym h.separation.static ∙ member_any names_total names_exact (breaks_static s) s.users user is e))

module _ (user role : Name) (s : State) where
  abbrev pub assigned_state : State
  assigned_state = record s { assigned = with_key pair_cmp (user, role) s.assigned }

  -- with one more assignment the user is authorized for what the role inherits besides
  pub user_gains : (r : Name) → is_authorized assigned_state user r ≡ (inherits_in s role r || is_authorized s user r)
  user_gains r = same_bits _ _
      (λ e. let a = (is_authorized_iff assigned_state user r).0 e in ⊎_elim
      (λ same. or_left _ _ ((inherits_iff s.roles s.declared role r).1 (subst (λ q. Inherits s.roles s.declared q r) (ap (λ p. p.1) (one_key pairs_exact (user, a.0) (user, role) same)) a.2)))
      (λ was. or_right _ _ ((is_authorized_iff s user r).1 (a.0, was, a.2)))
      (or_cases _ _ (sym (has-with_key pairs_total (user, role) s.assigned (user, a.0)) ∙ a.1)))
      (λ e. ⊎_elim
      (λ i. (is_authorized_iff assigned_state user r).1 (role, has-with_key pairs_total (user, role) s.assigned (user, role) ∙ or_left _ _ (ties_itself pairs_total (user, role)), (inherits_iff s.roles s.declared role r).0 i))
      (λ was. let a = (is_authorized_iff s user r).0 was in (is_authorized_iff assigned_state user r).1 (a.0, still pairs_total (user, role) s.assigned (user, a.0) a.1, a.2))
      (or_cases _ _ e))

  -- and nobody else
  pub others_gain_nothing : (other : Name) → eq_by_cmp name_cmp user other ≡ false → (r : Name) → is_authorized assigned_state other r ≡ is_authorized s other r
  others_gain_nothing other apart r = same_bits _ _
      (λ e. let a = (is_authorized_iff assigned_state other r).0 e in ⊎_elim
      (λ same. let one = one_key pairs_exact (other, a.0) (user, role) same in absurd (false≢true (sym apart ∙ subst (λ z. eq_by_cmp name_cmp user z ≡ true) (sym (ap (λ p. p.0) one)) (ties_itself names_total user))))
      (λ was. (is_authorized_iff s other r).1 (a.0, was, a.2))
      (or_cases _ _ (sym (has-with_key pairs_total (user, role) s.assigned (other, a.0)) ∙ a.1)))
      (λ e. let a = (is_authorized_iff s other r).0 e in (is_authorized_iff assigned_state other r).1 (a.0, still pairs_total (user, role) s.assigned (other, a.0) a.1, a.2))

  pub assigned_violated : IsSound s → has name_cmp user s.users ≡ true → is_violated Static (change (AssignUser user role) s) ≡ breaks_with s role user
  assigned_violated h is =
      any_one (breaks_static assigned_state) s.users user is
      (λ other m apart. breaks_same (is_authorized assigned_state other) (is_authorized s other) (others_gain_nothing other apart) s.static_sets ∙ unbroken s h other m)
      ∙ breaks_same (is_authorized assigned_state user) (λ r. inherits_in s role r || is_authorized s user r) user_gains s.static_sets

module _ (a d : Name) (s : State) (is_a : has name_cmp a s.roles ≡ true) (is_d : has name_cmp d s.roles ≡ true) where
  abbrev pub declared_state : State
  declared_state = record s { declared = with_key pair_cmp (a, d) s.declared }

  -- with one more pair, who is authorized for the ascendant gains what the descendant inherits
  pub pair_gives : (user r : Name) → is_authorized declared_state user r ≡ (is_authorized s user r || (is_authorized s user a && inherits_in s d r))
  pair_gives user r = same_bits _ _
      (λ e. let x = (is_authorized_iff declared_state user r).0 e in ⊎_elim
      (λ direct. or_left _ _ ((is_authorized_iff s user r).1 (x.0, x.1, direct)))
      (λ over. or_right _ _ (and_from _ _ ((is_authorized_iff s user a).1 (x.0, x.1, over.0)) ((inherits_iff s.roles s.declared d r).1 over.1)))
      (inherits_over s.roles s.declared a d x.0 r x.2))
      (λ e. ⊎_elim
      (λ was. let x = (is_authorized_iff s user r).0 was in (is_authorized_iff declared_state user r).1 (x.0, x.1, on x.0 r x.2))
      (λ both.
      let parts = and_parts _ _ both in
      let x = (is_authorized_iff s user a).0 parts.0 in
      let pair : Inherits s.roles declared_state.declared a d = (d ∷ [], (is_a, has-with_key pairs_total (a, d) s.declared (a, d) ∙ or_left _ _ (ties_itself pairs_total (a, d)), (is_d, refl))) in
      let below = on d r ((inherits_iff s.roles s.declared d r).0 parts.1) in
      (is_authorized_iff declared_state user r).1 (x.0, x.1, joined s.roles declared_state.declared x.0 a r (on x.0 a x.2) (joined s.roles declared_state.declared a d r pair below)))
      (or_cases _ _ e))
    where
      on : (r q : Name) → Inherits s.roles s.declared r q → Inherits s.roles declared_state.declared r q
      on r q i = inherits_still s.roles s.roles s.declared declared_state.declared (λ x m. m) (still pairs_total (a, d) s.declared) r q i

  pub below_one : IsSound s → (user : Name) → has name_cmp user s.users ≡ true → breaks_static declared_state user ≡ (is_authorized s user a && breaks_with s d user)
  below_one h user is = go (is_authorized s user a) refl
    where
      go : (b : Bool) → is_authorized s user a ≡ b → breaks_static declared_state user ≡ (b && breaks_with s d user)
      go true e = breaks_same (is_authorized declared_state user) (λ r. inherits_in s d r || is_authorized s user r) (λ r. grind (arith, pair_gives user r)) s.static_sets
      go false e = breaks_same (is_authorized declared_state user) (is_authorized s user) (λ r. grind (arith, pair_gives user r)) s.static_sets ∙ unbroken s h user is

  pub declared_violated : IsSound s → is_violated Static (change (AddInheritance a d) s) ≡ breaks_below s a d
  declared_violated h = any_alike (breaks_static declared_state) (λ user. is_authorized s user a && breaks_with s d user) s.users (below_one h)
