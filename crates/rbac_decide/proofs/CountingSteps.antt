-- Which counts a command leaves, and what the others become.
use Rattle.std.proofs.Common.{ℕ, List, [], ◌∷◌, Bool, true, false, not, cond, ◌||◌, ◌&&◌, ◌≡◌, Option, Some, None, refl, sym, ap, ◌∙◌, subst, ◌⊎◌, inl, inr, ⊎_elim, arith, filter}
use Rattle.rbac_decide.proofs.Common.{find, put, find-put, list_any, option_map, eq_by_cmp, has, with_key, without, without_key, updated, IsAuthorized}
use Rattle.rbac_decide.proofs.Common.{is_authorized, change, with_member, without_member, with_cardinality, sets_of, with_sets, IsChain, Inherits, juniors}
use Rattle.rbac_decide.proofs.Common.{Name, name_cmp, pair_cmp, begins_with, ends_with, without_role, without_pairs_of, first_denial, preconditions, RoleSet}
use Rattle.rbac_decide.proofs.Common.{is_broken_by, IsSound, IsRoleSet, State, Command, DeleteUser, AddRole, DeleteRole, DeassignUser, DeleteInheritance}
use Rattle.rbac_decide.proofs.Common.{AddAscendant, AddDescendant, CreateSet, DeleteSet, AddRoleMember, DeleteRoleMember, Separation, Static, Dynamic, Counts}
use Rattle.rbac_decide.proofs.Common.{numbers_of, without_user as without_user_of, count_in, authorized_count, authorized_by, authorized_users_by, juniors_by}
use Rattle.rbac_decide.proofs.Common.{count_by_tables, AreCountsBy, IsCommandStep, touches, without_static, state_of, Tables, or_left, or_cases, and_from}
use Rattle.rbac_decide.proofs.Common.{not-false, false≢true, still, was_kept, is_kept, each_found, has-with_key, has-without, one_key, ties_itself, ties_flip}
use Rattle.rbac_decide.proofs.Common.{same_bits, member_any, names_total, names_exact, pairs_total, pairs_exact, is_authorized_iff, joined, chain_role}
use Rattle.rbac_decide.proofs.Common.{inherits_iff, inherits_still, inherits_over, none_fails, authorized_still, authorized_before_role}
use Rattle.rbac_decide.proofs.Common.{authorized_before_ascendant, authorized_before_descendant, is_false, has_juniors}
use Rattle.sorted_keys.proofs.Lookups.{find-without_key, find-updated}
use Rattle.rbac_terms.specs.Relations.{without_user}
use Rattle.rbac_decide.proofs.CountingLemmas.{count_same, none_in}
use Rattle.rbac_decide.proofs.SeparationLemmas.{unbroken}

-- ---- What is still right, and what is counted anew

-- the sets of a policy after a change of what these users are authorized for, among these roles, where all other counts are right
pub record IsShift (after : Tables) (users below : List Name) (counts : Counts) : Type 0 where
  pub unbroken : (user : Name) → has name_cmp user users ≡ true → list_any (λ e. is_broken_by (authorized_by after user) e.1) after.static_sets.content ≡ false
  pub others : (set user : Name) → (touches below (find name_cmp set after.static_sets.content) && has name_cmp user users) ≡ false → numbers_of counts set user ≡ count_by_tables after set user

-- the sets of a policy after a change of one set of a kind, where all counts but that set's are right
pub record IsSetStep (kind : Separation) (set : Name) (after : Tables) (counts : Counts) : Type 0 where
  pub unbroken : (user : Name) → has name_cmp user after.sets.content.users ≡ true → list_any (λ e. is_broken_by (authorized_by after user) e.1) after.static_sets.content ≡ false
  pub others : kind ≡ Static → (other user : Name) → (eq_by_cmp name_cmp set other && has name_cmp user after.sets.content.users) ≡ false → numbers_of counts other user ≡ count_by_tables after other user
  pub all : kind ≡ Dynamic → AreCountsBy after counts

-- ---- Who is authorized as before

-- who is no user is authorized for nothing
pub stranger : (s : State) (user : Name) → IsSound s → has name_cmp user s.users ≡ false → (role : Name) → is_authorized s user role ≡ false
stranger s user h is role = is_false _ (λ e. let a = (is_authorized_iff s user role).0 e in false≢true (sym is ∙ (h.references.assigned user a.0 a.1).0))

-- a user's count stays where, for the roles that there were, the user is authorized as before
pub count_stays : (s t : State) (user : Name) → IsSound s
    → ((role : Name) → has name_cmp role s.roles ≡ true → IsAuthorized t user role → IsAuthorized s user role) → ((role : Name) → IsAuthorized s user role → IsAuthorized t user role)
    → (set : Name) → count_in (is_authorized t user) (find name_cmp set s.static_sets) ≡ authorized_count s set user
count_stays s t user h was is set = go (find name_cmp set s.static_sets) refl
  where
    go : (o : Option RoleSet) → find name_cmp set s.static_sets ≡ o → count_in (is_authorized t user) o ≡ count_in (is_authorized s user) o
    go None e = refl
    go (Some x) e =
        let sound = each_found name_cmp (λ (y : RoleSet). IsRoleSet s.roles y) set s.static_sets x e h.separation.static_sets.each in
        count_same (is_authorized t user) (is_authorized s user) x.roles (λ role m. same_bits _ _
        (λ e. (is_authorized_iff s user role).1 (was role (sound.exist role m) ((is_authorized_iff t user role).0 e)))
        (λ e. (is_authorized_iff t user role).1 (is role ((is_authorized_iff s user role).0 e))))

-- nobody's count of a set changes where only these users gain, or lose, only these roles
shared : (less more : State) (users below : List Name) → ((user role : Name) → IsAuthorized less user role → IsAuthorized more user role)
    → ((user role : Name) → IsAuthorized more user role → IsAuthorized less user role ⊎ ((has name_cmp user users ≡ true) × (has name_cmp role below ≡ true)))
    → (user : Name) (o : Option RoleSet) → (touches below o && has name_cmp user users) ≡ false → count_in (is_authorized more user) o ≡ count_in (is_authorized less user) o
shared less more users below stays gained user None e = refl
shared less more users below stays gained user (Some x) e =
    count_same (is_authorized more user) (is_authorized less user) x.roles (λ role m. same_bits _ _
    (λ t. ⊎_elim
    (λ was. (is_authorized_iff less user role).1 was)
    (λ both. absurd (false≢true (sym e ∙ and_from _ _ (member_any names_total names_exact (λ r. has name_cmp r below) x.roles role m both.1) both.0)))
    (gained user role ((is_authorized_iff more user role).0 t)))
    (λ t. (is_authorized_iff more user role).1 (stays user role ((is_authorized_iff less user role).0 t))))

-- the users that are authorized for a role, and what it inherits
module _ (s : State) (h : IsSound s) where
  pub among_users : (user role : Name) → IsAuthorized s user role → has name_cmp user (filter (λ u. is_authorized s u role) s.users) ≡ true
  among_users user role a =
      is_kept names_total names_exact (λ u. is_authorized s u role) s.users user ((is_authorized_iff s user role).1 a) (h.references.assigned user a.0 a.1).0

  among_juniors : (role r : Name) → Inherits s.roles s.declared role r → has name_cmp r (juniors s.roles s.declared role) ≡ true
  among_juniors role r i = has_juniors s.roles s.declared role r ∙ (inherits_iff s.roles s.declared role r).1 i

-- ---- Commands that change what one user, or who is authorized for one role, is authorized for

pub after_deassignment : (user role : Name) (s : State) → IsSound s → (set other : Name)
    → (touches (juniors s.roles s.declared role) (find name_cmp set s.static_sets) && has name_cmp other (user ∷ [])) ≡ false
    → authorized_count (change (DeassignUser user role) s) set other ≡ authorized_count s set other
after_deassignment user role s h set other e = sym (shared t s (user ∷ []) (juniors s.roles s.declared role)
    (λ u r a. (a.0, (was_kept pairs_total pairs_exact (λ p. not (eq_by_cmp pair_cmp (user, role) p)) s.assigned (u, a.0) a.1).1, a.2))
    (λ u r a. go u r a (eq_by_cmp pair_cmp (user, role) (u, a.0)) refl)
    other (find name_cmp set s.static_sets) e)
  where
    t : State
    t = record s { assigned = without pair_cmp (user, role) s.assigned }

    go : (u r : Name) (a : IsAuthorized s u r) (b : Bool) → eq_by_cmp pair_cmp (user, role) (u, a.0) ≡ b
        → IsAuthorized t u r ⊎ ((has name_cmp u (user ∷ []) ≡ true) × (has name_cmp r (juniors s.roles s.declared role) ≡ true))
    go u r a true e = let one = one_key pairs_exact (user, role) (u, a.0) e in inr (
      or_left _ _ (subst (λ z. eq_by_cmp name_cmp u z ≡ true) (sym (ap (λ p. p.0) one)) (ties_itself names_total u)),
      among_juniors s h role r (subst (λ q. Inherits s.roles s.declared q r) (sym (ap (λ p. p.1) one)) a.2),
    )
    go u r a false e = inl (a.0, is_kept pairs_total pairs_exact (λ p. not (eq_by_cmp pair_cmp (user, role) p)) s.assigned (u, a.0) (ap not e) a.1, a.2)

-- what is taken out and added again was there
pub put_back : (pair : Name × Name) (pairs : List (Name × Name)) (other : Name × Name) → has pair_cmp other pairs ≡ true → has pair_cmp other (with_key pair_cmp pair (without pair_cmp pair pairs)) ≡ true
put_back pair pairs other is_there =
    let back = has-with_key pairs_total pair (without pair_cmp pair pairs) other in
    let left = has-without pairs_total pair pairs other in
    grind arith

pub after_deleted_inheritance : (a d : Name) (s : State) → IsSound s → (set user : Name)
    → (touches (juniors s.roles s.declared d) (find name_cmp set s.static_sets) && has name_cmp user (filter (λ u. is_authorized s u a) s.users)) ≡ false
    → authorized_count (change (DeleteInheritance a d) s) set user ≡ authorized_count s set user
after_deleted_inheritance a d s h set user e = sym (shared t s (filter (λ u. is_authorized s u a) s.users) (juniors s.roles s.declared d)
    (λ u r x. (x.0, x.1, back x.0 r x.2))
    (λ u r x. ⊎_elim
    (λ direct. inl (x.0, x.1, direct))
    (λ over. inr (among_users s h u a (x.0, x.1, back x.0 a over.0), among_juniors s h d r (back d r over.1)))
    (inherits_over s.roles t.declared a d x.0 r (inherits_still s.roles s.roles s.declared (with_key pair_cmp (a, d) t.declared) (λ z m. m) there x.0 r x.2)))
    user (find name_cmp set s.static_sets) e)
  where
    t : State
    t = record s { declared = without pair_cmp (a, d) s.declared }

    kept : Name × Name → Bool
    kept p = not (eq_by_cmp pair_cmp (a, d) p)

    back : (r q : Name) → Inherits s.roles t.declared r q → Inherits s.roles s.declared r q
    back r q i = inherits_still s.roles s.roles t.declared s.declared (λ z m. m) (λ p m. (was_kept pairs_total pairs_exact kept s.declared p m).1) r q i

    there : (p : Name × Name) → has pair_cmp p s.declared ≡ true → has pair_cmp p (with_key pair_cmp (a, d) t.declared) ≡ true
    there p m = put_back (a, d) s.declared p m

-- a chain passes a role, or stays where that role is taken out with its pairs
module _ (role : Name) (roles : List Name) (declared : List (Name × Name)) where
  abbrev Passes : Name → List Name → Name → Type 0
  Passes p rest q =
      (IsChain (without name_cmp role roles) (without_pairs_of role declared) p rest q × (eq_by_cmp name_cmp role p ≡ false)) ⊎ (Inherits roles declared p role × Inherits roles declared role q)

  -- at the role itself
  at_role : (p : Name) (rest : List Name) (q : Name) → eq_by_cmp name_cmp role p ≡ true → IsChain roles declared p rest q → Passes p rest q
  at_role p rest q e c =
      let same = one_key names_exact role p e in
      inr (([], (chain_role roles declared p rest q c, sym same)), subst (λ z. Inherits roles declared z q) (sym same) (rest, c))

  last_role : (p q : Name) → IsChain roles declared p [] q → Passes p [] q
  last_role p q c = go (eq_by_cmp name_cmp role p) refl
    where
      go : (b : Bool) → eq_by_cmp name_cmp role p ≡ b → Passes p [] q
      go true e = at_role p [] q e c
      go false e = inl ((is_kept names_total names_exact (λ x. not (eq_by_cmp name_cmp role x)) roles p (ap not e) c.0, c.1), e)

  next_role : (p x : Name) (rest : List Name) (q : Name) → IsChain roles declared p (x ∷ rest) q → Passes x rest q → Passes p (x ∷ rest) q
  next_role p x rest q c later = go (eq_by_cmp name_cmp role p) refl
    where
      go : (b : Bool) → eq_by_cmp name_cmp role p ≡ b → Passes p (x ∷ rest) q
      go true e = at_role p (x ∷ rest) q e c
      go false e = ⊎_elim
          (λ stays. inl (
            (
              is_kept names_total names_exact (λ y. not (eq_by_cmp name_cmp role y)) roles p (ap not e) c.0,
              is_kept pairs_total pairs_exact (λ (y : Name × Name). not (begins_with role y || ends_with role y)) declared (p, x) (λ i. not (e i || stays.1 i)) c.1,
              stays.0,
            ),
            e,
          ))
          (λ through.
          let step : Inherits roles declared p x = (x ∷ [], (c.0, c.1, (chain_role roles declared x rest q c.2, refl))) in
          inr (joined roles declared p x role step through.0, through.1))
          later

  passes : (p : Name) (rest : List Name) (q : Name) → IsChain roles declared p rest q → Passes p rest q
  passes p [] q c = last_role p q c
  passes p (x ∷ rest) q c = next_role p x rest q c (passes x rest q c.2)

pub after_deleted_role : (role : Name) (s : State) → IsSound s → (set user : Name)
    → (touches (juniors s.roles s.declared role) (find name_cmp set s.static_sets) && has name_cmp user (filter (λ u. is_authorized s u role) s.users)) ≡ false
    → authorized_count (change (DeleteRole role) s) set user ≡ authorized_count s set user
after_deleted_role role s h set user e = sym (shared t s (filter (λ u. is_authorized s u role) s.users) (juniors s.roles s.declared role)
    (λ u r a. (
      a.0,
      (was_kept pairs_total pairs_exact assigned_kept s.assigned (u, a.0) a.1).1,
      inherits_still t.roles s.roles t.declared s.declared
          (λ x m. (was_kept names_total names_exact (λ y. not (eq_by_cmp name_cmp role y)) s.roles x m).1)
          (λ p m. (was_kept pairs_total pairs_exact (λ (p : Name × Name). not (begins_with role p || ends_with role p)) s.declared p m).1) a.0 r a.2,
    ))
    (λ u r a. ⊎_elim
    (λ avoids. inl (a.0, is_kept pairs_total pairs_exact assigned_kept s.assigned (u, a.0) (ap not avoids.1) a.1, (a.2.0, avoids.0)))
    (λ through. inr (among_users s h u role (a.0, a.1, through.0), among_juniors s h role r through.1))
    (passes role s.roles s.declared a.0 a.2.0 r a.2.1))
    user (find name_cmp set s.static_sets) e)
  where
    t : State
    t = record s { roles = without name_cmp role s.roles; assigned = without_role role s.assigned; declared = without_pairs_of role s.declared }

    assigned_kept : Name × Name → Bool
    assigned_kept p = not (ends_with role p)

-- ---- A user that is taken out

pub after_deleted_user : (user : Name) (s : State) → IsSound s → (other : Name) → eq_by_cmp name_cmp user other ≡ false → (set : Name)
    → authorized_count (change (DeleteUser user) s) set other ≡ authorized_count s set other
after_deleted_user user s h other apart set =
    let t : State = record s { assigned = without_user user s.assigned } in
    count_stays s t other h
    (λ r is a. (a.0, (was_kept pairs_total pairs_exact (λ (p : Name × Name). not (begins_with user p)) s.assigned (other, a.0) a.1).1, a.2))
    (λ r a. (a.0, is_kept pairs_total pairs_exact (λ (p : Name × Name). not (begins_with user p)) s.assigned (other, a.0) (ap not apart) a.1, a.2))
    set

is_gone : (user : Name) (users : List Name) → has name_cmp user (without name_cmp user users) ≡ false
is_gone user users = has-without names_total user users user ∙ ap (λ b. not b && has name_cmp user users) (ties_itself names_total user)

-- ---- Commands that change a set

-- a set of another name is found as before
pub put_elsewhere : (set other : Name) (x : RoleSet) (sets : List (Name × RoleSet)) → eq_by_cmp name_cmp set other ≡ false → find name_cmp other (put name_cmp set x sets) ≡ find name_cmp other sets
put_elsewhere set other x sets apart =
    find-put name_cmp names_total other set x sets ∙ ap (λ b. cond b (Some x) (find name_cmp other sets)) (ties_flip names_total names_exact other set ∙ apart)

pub updated_elsewhere : (set other : Name) (f : RoleSet → RoleSet) (sets : List (Name × RoleSet)) → eq_by_cmp name_cmp set other ≡ false
    → find name_cmp other (updated name_cmp set f sets) ≡ find name_cmp other sets
updated_elsewhere set other f sets apart =
    find-updated name_cmp names_total set f sets other
    ∙ ap (λ b. cond b (option_map f (find name_cmp other sets)) (find name_cmp other sets)) (ties_flip names_total names_exact other set ∙ apart)

-- the only member of a set of one
only : (user : Name) (users : List Name) → has name_cmp user users ≡ true → (other : Name) → has name_cmp other (user ∷ []) ≡ true → has name_cmp other users ≡ true
only user users is other m = ⊎_elim (λ t. subst (λ z. has name_cmp z users ≡ true) (sym (one_key names_exact other user t)) is) (λ f. absurd (false≢true f)) (or_cases _ _ m)

-- a set without its name
pub deleted_count : (set other : Name) (test : Name → Bool) (sets : List (Name × RoleSet))
    → count_in test (find name_cmp other (without_key name_cmp set sets)) ≡ cond (eq_by_cmp name_cmp set other) 0 (count_in test (find name_cmp other sets))
deleted_count set other test sets =
    let found = find-without_key name_cmp names_total set sets other in
    let flip = ties_flip names_total names_exact other set in
    grind arith

-- another number of a set
pub numbered : (set other : Name) (n : ℕ) (test : Name → Bool) (sets : List (Name × RoleSet)) → count_in test (find name_cmp other (updated name_cmp set (with_cardinality n) sets)) ≡ count_in test (find name_cmp other sets)
numbered set other n test sets = let found = find-updated name_cmp names_total set (with_cardinality n) sets other in grind arith

-- ---- Commands that leave each count, though they change roles or pairs

pub role_leaves : (role : Name) (s : State) → IsSound s → (set user : Name) → authorized_count (change (AddRole role) s) set user ≡ authorized_count s set user
role_leaves role s h set user =
    count_stays s (change (AddRole role) s) user h (λ r is a. authorized_before_role role s h user r a)
    (authorized_still s (with_key name_cmp role s.roles) s.declared (still names_total role s.roles) (λ p m. m) user) set

pub ascendant_leaves : (a d : Name) (s : State) → IsSound s → first_denial (AddAscendant a d) s ≡ None
    → (set user : Name) → authorized_count (change (AddAscendant a d) s) set user ≡ authorized_count s set user
ascendant_leaves a d s h none set user =
    count_stays s (change (AddAscendant a d) s) user h (λ r is x. authorized_before_ascendant a d s (none_fails (preconditions (AddAscendant a d) s) none).0 h user r x)
    (authorized_still s (with_key name_cmp a s.roles) (with_key pair_cmp (a, d) s.declared) (still names_total a s.roles) (still pairs_total (a, d) s.declared) user) set

pub descendant_leaves : (a d : Name) (s : State) → IsSound s → first_denial (AddDescendant a d) s ≡ None
    → (set user : Name) → authorized_count (change (AddDescendant a d) s) set user ≡ authorized_count s set user
descendant_leaves a d s h none set user =
    count_stays s (change (AddDescendant a d) s) user h (λ r is x. authorized_before_descendant a d s (none_fails (preconditions (AddDescendant a d) s) none).0 h user r is x)
    (authorized_still s (with_key name_cmp d s.roles) (with_key pair_cmp (a, d) s.declared) (still names_total d s.roles) (still pairs_total (a, d) s.declared) user) set

-- ---- The counts before a command

module _ (c : Command) (before after : Tables) (step : IsCommandStep c before after) (counts : Counts) (counted : AreCountsBy before counts) where
  abbrev s : State
  s = state_of before step.vocabulary

  -- a count that the command leaves
  pub left : (set user : Name) → authorized_count (change c s) set user ≡ authorized_count s set user → numbers_of counts set user ≡ count_by_tables after set user
  left set user same = counted set user ∙ sym same ∙ sym (ap (λ (x : State). authorized_count x set user) step.made)

  users_still : (change c s).users ≡ s.users → (user : Name) → has name_cmp user after.sets.content.users ≡ has name_cmp user s.users
  users_still same user = ap (λ (x : State). has name_cmp user x.users) step.made ∙ ap (has name_cmp user) same

  -- no user breaks a set after it
  pub unbroken_after : (user : Name) → has name_cmp user after.sets.content.users ≡ true → list_any (λ e. is_broken_by (authorized_by after user) e.1) after.static_sets.content ≡ false
  unbroken_after user is = unbroken (state_of after step.vocabulary) step.sound_after user is

  -- no user's count is other than 0 before and after it
  strange : (change c s).users ≡ s.users → (set user : Name) → has name_cmp user after.sets.content.users ≡ false → numbers_of counts set user ≡ count_by_tables after set user
  strange same set user is =
      counted set user
      ∙ none_in (is_authorized s user) (find name_cmp set s.static_sets) (stranger s user step.sound (sym (users_still same user) ∙ is))
      ∙ sym (none_in (authorized_by after user) (find name_cmp set after.static_sets.content) (stranger (state_of after step.vocabulary) user step.sound_after is))

  -- where the command changes only what these users are authorized for, among these roles
  pub shifted : (users below : List Name) → (change c s).users ≡ s.users → (change c s).static_sets ≡ s.static_sets → ((user : Name) → has name_cmp user users ≡ true → has name_cmp user s.users ≡ true)
      → ((set user : Name) → (touches below (find name_cmp set s.static_sets) && has name_cmp user users) ≡ false → authorized_count (change c s) set user ≡ authorized_count s set user)
      → IsShift after users below counts
  shifted users below same_users same_sets exist stays = record {
    unbroken = λ user is. unbroken_after user (users_still same_users user ∙ exist user is);
    others = λ set user e. left set user (stays set user (ap (λ sets. touches below (find name_cmp set sets) && has name_cmp user users) (sym sets_still) ∙ e));
  }
    where
      sets_still : after.static_sets.content ≡ s.static_sets
      sets_still = ap (λ (x : State). x.static_sets) step.made ∙ same_sets

  -- where the command changes only one set of a kind
  pub one_set_step : (kind : Separation) (set : Name) → (change c s).users ≡ s.users
      → ((other user : Name) → (kind ≡ Static → eq_by_cmp name_cmp set other ≡ false) → authorized_count (change c s) other user ≡ authorized_count s other user)
      → IsSetStep kind set after counts
  one_set_step kind set same_users stays = record {
    unbroken = unbroken_after;
    others = λ is other user e. go other user (eq_by_cmp name_cmp set other) (has name_cmp user after.sets.content.users) refl refl e;
    all = λ is set other. left set other (stays set other (λ static. absurd (kinds_differ static is)));
  }
    where
      kinds_differ : kind ≡ Static → kind ≡ Dynamic → ⊥
      kinds_differ a b = let same : Static ≡ Dynamic = sym a ∙ b in let never : ⊥ = cc in never

      go : (other user : Name) (b d : Bool) → eq_by_cmp name_cmp set other ≡ b → has name_cmp user after.sets.content.users ≡ d → (b && d) ≡ false → numbers_of counts other user ≡ count_by_tables after other user
      go other user false d t is f = left other user (stays other user (λ _. t))
      go other user true false t is f = strange same_users other user is
      go other user true true t is f = absurd (false≢true (sym f))

-- ---- What is right after each command but what is counted anew

module _ (before after : Tables) (counts : Counts) (counted : AreCountsBy before counts) where
  pub deassigned_shift : (user role : Name) → IsCommandStep (DeassignUser user role) before after → IsShift after (user ∷ []) (juniors_by before role) counts
  deassigned_shift user role step =
      let s = state_of before step.vocabulary in
      let holds = none_fails (preconditions (DeassignUser user role) s) step.undenied in
      shifted (DeassignUser user role) before after step counts counted (user ∷ []) (juniors_by before role) refl refl
      (only user s.users (not-false _ holds.0)) (after_deassignment user role s step.sound)

  pub deleted_role_shift : (role : Name) → IsCommandStep (DeleteRole role) before after → IsShift after (authorized_users_by before role) (juniors_by before role) counts
  deleted_role_shift role step =
      let s = state_of before step.vocabulary in
      shifted (DeleteRole role) before after step counts counted (authorized_users_by before role) (juniors_by before role) refl refl
      (λ user m. (was_kept names_total names_exact (λ u. is_authorized s u role) s.users user m).1) (after_deleted_role role s step.sound)

  pub deleted_inheritance_shift : (a d : Name) → IsCommandStep (DeleteInheritance a d) before after → IsShift after (authorized_users_by before a) (juniors_by before d) counts
  deleted_inheritance_shift a d step =
      let s = state_of before step.vocabulary in
      shifted (DeleteInheritance a d) before after step counts counted (authorized_users_by before a) (juniors_by before d) refl refl
      (λ user m. (was_kept names_total names_exact (λ u. is_authorized s u a) s.users user m).1) (after_deleted_inheritance a d s step.sound)

  -- a change of one set of a kind
  set_changed : (c : Command) (kind : Separation) (set : Name) (f : List (Name × RoleSet) → List (Name × RoleSet)) (step : IsCommandStep c before after)
      → change c (state_of before step.vocabulary) ≡ with_sets kind (f (sets_of kind (state_of before step.vocabulary))) (state_of before step.vocabulary)
      → ((other : Name) → eq_by_cmp name_cmp set other ≡ false → find name_cmp other (f before.static_sets.content) ≡ find name_cmp other before.static_sets.content)
      → IsSetStep kind set after counts
  set_changed c Static set f step made elsewhere =
      one_set_step c before after step counts counted Static set (ap (λ (x : State). x.users) made)
      (λ other user apart. ap (λ (x : State). authorized_count x other user) made ∙ ap (count_in (authorized_by before user)) (elsewhere other (apart refl)))
  set_changed c Dynamic set f step made elsewhere =
      one_set_step c before after step counts counted Dynamic set (ap (λ (x : State). x.users) made)
      (λ other user apart. ap (λ (x : State). authorized_count x other user) made)

  pub created_set : (kind : Separation) (set : Name) (roles : List Name) (n : ℕ) → IsCommandStep (CreateSet kind set roles n) before after → IsSetStep kind set after counts
  created_set kind set roles n step =
      let x : RoleSet = record { roles = roles; cardinality = n } in
      set_changed (CreateSet kind set roles n) kind set (put name_cmp set x) step refl
      (λ other. put_elsewhere set other x before.static_sets.content)

  pub added_member : (kind : Separation) (set role : Name) → IsCommandStep (AddRoleMember kind set role) before after → IsSetStep kind set after counts
  added_member kind set role step =
      set_changed (AddRoleMember kind set role) kind set (updated name_cmp set (with_member role)) step refl
      (λ other. updated_elsewhere set other (with_member role) before.static_sets.content)

  pub deleted_member : (kind : Separation) (set role : Name) → IsCommandStep (DeleteRoleMember kind set role) before after → IsSetStep kind set after counts
  deleted_member kind set role step =
      set_changed (DeleteRoleMember kind set role) kind set (updated name_cmp set (without_member role)) step refl
      (λ other. updated_elsewhere set other (without_member role) before.static_sets.content)

  pub deleted_set : (kind : Separation) (set : Name) → IsCommandStep (DeleteSet kind set) before after → (other user : Name) → without_static kind set (numbers_of counts) other user ≡ count_by_tables after other user
  deleted_set Static set step other user =
      ap (cond (eq_by_cmp name_cmp set other) 0) (counted other user)
      ∙ sym (deleted_count set other (authorized_by before user) before.static_sets.content)
      ∙ sym (ap (λ (x : State). authorized_count x other user) step.made)
  deleted_set Dynamic set step other user = left (DeleteSet Dynamic set) before after step counts counted other user refl

  pub deleted_user : (user : Name) → IsCommandStep (DeleteUser user) before after → (set other : Name) → without_user_of user (numbers_of counts) set other ≡ count_by_tables after set other
  deleted_user user step set other = go (eq_by_cmp name_cmp user other) refl
    where
      gone : eq_by_cmp name_cmp user other ≡ true → has name_cmp other after.sets.content.users ≡ false
      gone t = ap (λ (x : State). has name_cmp other x.users) step.made ∙ subst (λ z. has name_cmp z (without name_cmp user before.sets.content.users) ≡ false) (one_key names_exact user other t) (is_gone user before.sets.content.users)

      go : (b : Bool) → eq_by_cmp name_cmp user other ≡ b → cond b 0 (numbers_of counts set other) ≡ count_by_tables after set other
      go true t = sym (none_in (authorized_by after other) (find name_cmp set after.static_sets.content) (stranger (state_of after step.vocabulary) other step.sound_after (gone t)))
      go false t = left (DeleteUser user) before after step counts counted set other (after_deleted_user user (state_of before step.vocabulary) step.sound other t set)
