-- Who breaks separation of duty after a change, told of the state before it.
use Rattle.std.proofs.Common.{ℕ, zero, suc, ◌+◌, add-one, drop, slice_get, List, [], ◌∷◌, Bool, true, false, cond, ◌||◌, ◌&&◌, ◌≡◌, Option, Some, None, refl, sym, ap, ◌∙◌, arith}
use Rattle.std.specs.List.Sorted.{IsStrictlySortedBy}
use Rattle.rbac_decide.proofs.Common.{IsTotalOrder, find, put, find-put, list_any, first_where, option_map, eq_by_cmp, Ordering, has}
use Rattle.rbac_decide.proofs.Common.{by_key, with_key, inherits_in, is_authorized, change, with_active, sets_of, with_sets, breaks_static, breaks_dynamic}
use Rattle.rbac_decide.proofs.Common.{is_violated, Name, name_cmp, active_in, active_roles, RoleSet, is_broken_by, is_broken, first_broken, IsSound, State}
use Rattle.rbac_decide.proofs.Common.{Session, AssignUser, AddInheritance, CreateSession, AddActiveRole, Separation, Static, Dynamic, breaks_with, first_holder}
use Rattle.rbac_decide.proofs.Common.{Named, Tells, name_found, name_of, first_entry, first_set_of, first_set_in, static_breach, dynamic_breach, breach_of}
use Rattle.rbac_decide.proofs.Common.{a_breach, NamedByReferences, false≢true, and_parts, or_right, or_left, IsBelowAll, greater, one_key, ties_itself}
use Rattle.rbac_decide.proofs.Common.{names_total, names_exact}
use Rattle.rbac_decide.proofs.SeparationLemmas.{breaks_same, any_put, put_found, put_violated, unbroken, user_gains, others_gain_nothing, assigned_state, declared_state, pair_gives, below_one, declared_violated}
use Rattle.rbac_decide.proofs.FreshLemmas.{nobody_breaks}

-- what is told of one test is told of an equal one
pub tells_so : (b now : Bool) (x then : Named) (found : Option NamedByReferences) → now ≡ b → (b ≡ true → x ≡ then) → Tells b x found → Tells now then found
tells_so b now x then None e f told = e ∙ told
tells_so b now x then (Some names) e f told = (e ∙ told.0, told.1 ∙ f told.0)

-- ---- The first that passes

module _ {X : Type 0} (p : X → Bool) where
  pub none_first : (xs : List X) → first_where p xs ≡ None → list_any p xs ≡ false
  none_first [] e = refl
  none_first (x ∷ xs) e = grind (arith, none_first xs)

  pub none_any : (xs : List X) → list_any p xs ≡ false → first_where p xs ≡ None
  none_any [] e = refl
  none_any (x ∷ xs) e = grind (arith, none_any xs)

  pub some_first : (xs : List X) (y : X) → first_where p xs ≡ Some y → (p y ≡ true) × (list_any p xs ≡ true)
  some_first [] y e = grind arith
  some_first (x ∷ xs) y e = grind (arith, some_first xs y)

  -- the next element is the first that passes, or is passed over
  pub first_here : (xs : List X) (i : ℕ) (x : X) → slice_get xs i ≡ Some x → p x ≡ true → first_where p (drop i xs) ≡ Some x
  first_here [] i x e passes = grind arith
  first_here (y ∷ ys) zero x e passes = grind arith
  first_here (y ∷ ys) (suc i) x e passes = first_here ys i x e passes

  later : (xs : List X) (i : ℕ) → ((x : X) → slice_get xs i ≡ Some x → p x ≡ false) → first_where p (drop i xs) ≡ first_where p (drop (suc i) xs)
  later [] zero fails = refl
  later [] (suc i) fails = refl
  later (y ∷ ys) zero fails = ap (λ b. cond b (Some y) (first_where p ys)) (fails y refl)
  later (y ∷ ys) (suc i) fails = later ys i fails

  pub first_later : (xs : List X) (i : ℕ) → ((x : X) → slice_get xs i ≡ Some x → p x ≡ false) → first_where p (drop i xs) ≡ first_where p (drop (i + 1) xs)
  first_later xs i fails = later xs i fails ∙ ap (λ n. first_where p (drop n xs)) (sym (add-one i))

  module _ (r : X → Bool) where
    -- where none is so, the first is not
    pub first_unless : (xs : List X) (y : X) → list_any r xs ≡ false → first_where p xs ≡ Some y → r y ≡ false
    first_unless [] y none e = grind arith
    first_unless (x ∷ xs) y none e = grind (arith, first_unless xs y)

    -- tests that agree wherever that is not so have the same first
    pub first_alike : (q : X → Bool) → ((x : X) → r x ≡ false → p x ≡ q x) → (xs : List X) → list_any r xs ≡ false → first_where p xs ≡ first_where q xs
    first_alike q same [] none = refl
    first_alike q same (x ∷ xs) none = grind (arith, same x, first_alike q same xs)

-- a name that passes, where no other does, is the first
pub first_one : (p : Name → Bool) (xs : List Name) (k : Name) → has name_cmp k xs ≡ true → p k ≡ true → ((x : Name) → has name_cmp x xs ≡ true → eq_by_cmp name_cmp k x ≡ false → p x ≡ false) → first_where p xs ≡ Some k
first_one p [] k m passes others = absurd (false≢true m)
first_one p (x ∷ xs) k m passes others =
    let same : eq_by_cmp name_cmp k x ≡ true → k ≡ x = one_key names_exact k x in
    let apart = others x (or_left _ _ (ties_itself names_total x)) in
    let rest : has name_cmp k xs ≡ true → first_where p xs ≡ Some k = λ there. first_one p xs k there passes (λ y n. others y (or_right _ _ n)) in
    grind arith

-- an entry that passes, put among those of which none does, is the first
pub first_put : {X : Type 0} (p : X → Bool) (k : Name) (v : X) (es : List (Name × X)) → list_any (λ e. p e.1) es ≡ false → p v ≡ true → first_entry p (put name_cmp k v es) ≡ k
first_put p k v [] none passes = grind arith
first_put p k v (x ∷ xs) none passes = grind (arith, names_exact k x.0, first_put p k v xs)

module _ {K V : Type 0} {R : K → K → Ordering} (o : IsTotalOrder R) (p : K × V → Bool) where
  above : (x : K × V) (es : List (K × V)) (y : K × V) → IsBelowAll (by_key R) x es → first_where p es ≡ Some y → eq_by_cmp R y.0 x.0 ≡ false
  above x [] y below e = grind arith
  above x (z ∷ es) y below e = grind (arith, greater o x.0 z.0 below.0, above x es y below.1)

  -- among sorted entries the first that passes is found by its key
  pub first_found : (es : List (K × V)) → IsStrictlySortedBy (by_key R) es → (y : K × V) → first_where p es ≡ Some y → find R y.0 es ≡ Some y.1
  unfolding IsStrictlySortedBy
  first_found [] sorted y e = grind arith
  first_found (x ∷ es) sorted y e = grind (arith, ties_itself o x.0, above x es y sorted.0, first_found es sorted.1 y)

-- ---- A user that becomes authorized for what a role inherits

abbrev pub breaking_with : State → Name → Name → Name × RoleSet → Bool
breaking_with s role user e = is_broken_by (λ r. inherits_in s role r || is_authorized s user r) e.1

abbrev pub first_with : State → Name → Name → Name
first_with s role user = first_entry (is_broken_by (λ r. inherits_in s role r || is_authorized s user r)) s.static_sets

-- where a user is the first that breaks a set, and its tests are these, that is the breach
module _ (after : State) (user : Name) (test : Name → Bool) (first : first_where (breaks_static after) after.users ≡ Some user) (tests : (r : Name) → is_authorized after user r ≡ test r) where
  pub breach_is : a_breach Static user (first_entry (is_broken_by test) after.static_sets) ≡ static_breach after
  breach_is =
      sym (ap (λ o. a_breach Static (name_found o) (first_set_of after (name_found o))) first
      ∙ ap (λ (t : Name → Bool). a_breach Static user (first_entry (is_broken_by t) after.static_sets)) (λ i r. tests r i))

pub assignment_named : (user role : Name) (s : State) → IsSound s → has name_cmp user s.users ≡ true → breaks_with s role user ≡ true
    → a_breach Static user (first_with s role user) ≡ static_breach (change (AssignUser user role) s)
assignment_named user role s h is broken =
    let after = assigned_state user role s in
    let first : first_where (breaks_static after) s.users ≡ Some user =
    first_one (breaks_static after) s.users user is
    (breaks_same (is_authorized after user) (λ r. inherits_in s role r || is_authorized s user r) (user_gains user role s) s.static_sets ∙ broken)
    (λ other m apart. breaks_same (is_authorized after other) (is_authorized s other) (others_gain_nothing user role s other apart) s.static_sets ∙ unbroken s h other m) in
    breach_is after user (λ r. inherits_in s role r || is_authorized s user r) first (user_gains user role s)

module _ (a d : Name) (s : State) (is_a : has name_cmp a s.roles ≡ true) (is_d : has name_cmp d s.roles ≡ true) (h : IsSound s) where
  abbrev breaking_below : Name → Bool
  breaking_below user = is_authorized s user a && breaks_with s d user

  pub pair_unbroken : first_where (λ user. is_authorized s user a && breaks_with s d user) s.users ≡ None → is_violated Static (change (AddInheritance a d) s) ≡ false
  pair_unbroken none = declared_violated a d s is_a is_d h ∙ none_first breaking_below s.users none

  module _ (user : Name) (some : first_where (λ user. is_authorized s user a && breaks_with s d user) s.users ≡ Some user) where
    both : (is_authorized s user a ≡ true) × (breaks_with s d user ≡ true)
    both = and_parts _ _ (some_first breaking_below s.users user some).0

    pub pair_breaks : breaks_with s d user ≡ true
    pair_breaks = both.1

    pub pair_violated : is_violated Static (change (AddInheritance a d) s) ≡ breaks_with s d user
    pair_violated = declared_violated a d s is_a is_d h ∙ (some_first breaking_below s.users user some).1 ∙ sym both.1

    pub pair_named : a_breach Static user (first_with s d user) ≡ static_breach (change (AddInheritance a d) s)
    pair_named =
        breach_is (declared_state a d s is_a is_d) user (λ r. inherits_in s d r || is_authorized s user r)
        (members_alike (breaks_static (declared_state a d s is_a is_d)) breaking_below s.users (below_one a d s is_a is_d h) ∙ some)
        (λ r. grind (arith, pair_gives a d s is_a is_d user r, both.0))
      where
        members_alike : (p q : Name → Bool) (xs : List Name) → ((x : Name) → has name_cmp x xs ≡ true → p x ≡ q x) → first_where p xs ≡ first_where q xs
        members_alike p q [] same = refl
        members_alike p q (x ∷ xs) same = λ i. cond (same x (or_left _ _ (ties_itself names_total x)) i) (Some x) (members_alike p q xs (λ y m. same y (or_right _ _ m)) i)

-- ---- A set that is put

module _ (set : Name) (new : RoleSet) (s : State) (h : IsSound s) where
  abbrev with_static : State
  with_static = with_sets Static (put name_cmp set new s.static_sets) s

  abbrev with_dynamic : State
  with_dynamic = with_sets Dynamic (put name_cmp set new s.dynamic_sets) s

  static_named : (user : Name) → first_where (λ user. is_broken_by (is_authorized s user) new) s.users ≡ Some user → a_breach Static user set ≡ static_breach with_static
  static_named user some =
      let none = nobody_breaks s h in
      let first : first_where (breaks_static with_static) s.users ≡ Some user =
      first_alike (breaks_static with_static) (breaks_static s) (λ user. is_broken_by (is_authorized s user) new) (λ x unbroken. any_put name_cmp (is_broken_by (is_authorized s x)) set new s.static_sets unbroken) s.users h.separation.static ∙ some in
      sym (ap (λ o. a_breach Static (name_found o) (first_set_of with_static (name_found o))) first
      ∙ ap (a_breach Static user) (first_put (is_broken_by (is_authorized s user)) set new s.static_sets (none user) (some_first (λ user. is_broken_by (is_authorized s user) new) s.users user some).0))

  dynamic_named : (e : Name × Session) → first_where (λ (e : Name × Session). is_broken e.1.active new) s.sessions ≡ Some e → a_breach Dynamic e.0 set ≡ dynamic_breach with_dynamic
  dynamic_named e some =
      let test : Name × Session → Bool = λ e. is_broken e.1.active new in
      let breaks : Name × Session → Bool = λ e. breaks_dynamic s e.1 in
      let none : breaks_dynamic s e.1 ≡ false = first_unless test breaks s.sessions e h.separation.dynamic some in
      let first : first_where (λ (e : Name × Session). breaks_dynamic with_dynamic e.1) s.sessions ≡ Some e =
      first_alike (λ (e : Name × Session). breaks_dynamic with_dynamic e.1) breaks test (λ x unbroken. any_put name_cmp (is_broken x.1.active) set new s.dynamic_sets unbroken) s.sessions h.separation.dynamic ∙ some in
      let active : active_roles with_dynamic e.0 ≡ e.1.active = ap active_in (first_found names_total test s.sessions h.in_order.sessions e some) in
      sym (ap (λ o. a_breach Dynamic (name_of o) (first_set_in with_dynamic (name_of o))) first
      ∙ ap (λ roles. a_breach Dynamic e.0 (first_entry (is_broken roles) with_dynamic.dynamic_sets)) active
      ∙ ap (a_breach Dynamic e.0) (first_put (is_broken e.1.active) set new s.dynamic_sets none (some_first test s.sessions e some).0))

pub put_unbroken : (kind : Separation) (set : Name) (new : RoleSet) (s : State) → IsSound s → first_holder kind s new ≡ None → is_violated kind (with_sets kind (put name_cmp set new (sets_of kind s)) s) ≡ false
put_unbroken Static set new s h none = put_violated Static set new s h ∙ none_first _ s.users none
put_unbroken Dynamic set new s h none = put_violated Dynamic set new s h ∙ none_first _ s.sessions (none_mapped _ none)
  where
    none_mapped : (o : Option (Name × Session)) → option_map (λ e. e.0) o ≡ None → o ≡ None
    none_mapped o e = grind arith

pub put_named : (kind : Separation) (set : Name) (new : RoleSet) (s : State) → IsSound s → (holder : Name) → first_holder kind s new ≡ Some holder
    → (is_violated kind (with_sets kind (put name_cmp set new (sets_of kind s)) s) ≡ true) × (a_breach kind holder set ≡ breach_of kind (with_sets kind (put name_cmp set new (sets_of kind s)) s))
put_named Static set new s h holder some = (put_violated Static set new s h ∙ (some_first _ s.users holder some).1, static_named set new s h holder some)
put_named Dynamic set new s h holder some =
    let found = some_mapped _ some in (
      put_violated Dynamic set new s h ∙ (some_first _ s.sessions found.0 found.1).1,
      ap (λ n. a_breach Dynamic n set) (sym found.2) ∙ dynamic_named set new s h found.0 found.1,
    )
  where
    some_mapped : (o : Option (Name × Session)) → option_map (λ e. e.0) o ≡ Some holder → (e : Name × Session) × (o ≡ Some e) × (e.0 ≡ holder)
    some_mapped None e = absurd (let f : ⊥ = cc in f)
    some_mapped (Some x) e = (x, refl, (let same : x.0 ≡ holder = cc in same))

-- ---- Sessions

-- the first set that is broken is the first broken set
pub first_broken_is : (roles : List Name) (sets : List (Name × RoleSet)) (set : Name) → first_broken roles sets ≡ Some set → first_entry (is_broken roles) sets ≡ set
first_broken_is roles [] set e = grind arith
first_broken_is roles (x ∷ xs) set e = grind (arith, first_broken_is roles xs set)

put_there : (session : Name) (x : Session) (sessions : List (Name × Session)) → find name_cmp session (put name_cmp session x sessions) ≡ Some x
put_there session x sessions = find-put name_cmp names_total session session x sessions ∙ ap (λ b. cond b (Some x) (find name_cmp session sessions)) (ties_itself names_total session)

-- a session that is put and breaks a set is the breach
put_breaks : (s : State) → IsSound s → (session : Name) (x : Session) → breaks_dynamic s x ≡ true → a_breach Dynamic session (first_entry (is_broken x.active) s.dynamic_sets) ≡ dynamic_breach (record s { sessions = put name_cmp session x s.sessions })
put_breaks s h session x broken =
    let after : State = record s { sessions = put name_cmp session x s.sessions } in
    let first : first_entry (breaks_dynamic s) (put name_cmp session x s.sessions) ≡ session = first_put (breaks_dynamic s) session x s.sessions h.separation.dynamic broken in
    sym (ap (λ n. a_breach Dynamic n (first_set_in after n)) first
    ∙ ap (λ o. a_breach Dynamic session (first_entry (is_broken (active_in o)) s.dynamic_sets)) (put_there session x s.sessions))

pub session_named : (user session : Name) (roles : List Name) (s : State) → IsSound s → breaks_dynamic s (record { owner = user; active = roles }) ≡ true
    → a_breach Dynamic session (first_entry (is_broken roles) s.dynamic_sets) ≡ dynamic_breach (change (CreateSession user session roles) s)
session_named user session roles s h broken = put_breaks s h session (record { owner = user; active = roles }) broken

pub activation_named : (user session role : Name) (found : Session) (s : State) → IsSound s → find name_cmp session s.sessions ≡ Some found → breaks_dynamic s (with_active role found) ≡ true
    → a_breach Dynamic session (first_entry (is_broken (with_key name_cmp role found.active)) s.dynamic_sets) ≡ dynamic_breach (change (AddActiveRole user session role) s)
activation_named user session role found s h is broken =
    put_breaks s h session (with_active role found) broken
    ∙ ap (λ sessions. dynamic_breach (record s { sessions = sessions })) (sym (put_found name_cmp session (with_active role) s.sessions found is))
