-- The counts that users come to by what they newly become authorized for.
use Rattle.std.proofs.Common.{ℕ, ◌+◌, List, [], ◌∷◌, ◌++◌, map, count_by, nat_le, Bool, true, false, not, cond, ◌||◌, ◌&&◌, ◌≡◌, Option, Some, None, refl, sym, ap, ◌∙◌, arith, filter}
use Rattle.rbac_decide.proofs.Common.{find, list_any, Each, eq_by_cmp, has, inherits_in, is_authorized, change, Name, name_cmp, RoleSet, is_broken_by}
use Rattle.rbac_decide.proofs.Common.{is_constrained, IsSound, State, Vocabulary, AssignUser, AddInheritance, Counts, CountChange, with_number, with_numbers}
use Rattle.rbac_decide.proofs.Common.{row_changes, changes_of, names_of, breaks_with, is_constrained_junior, count_in, authorized_count, authorized_by}
use Rattle.rbac_decide.proofs.Common.{authorized_users_by, AreCountsBy, touches, cut_to, touched_sets, TellsAfter, counts_with, breaks_touched, state_of}
use Rattle.rbac_decide.proofs.Common.{Tables, or_left, or_right, false≢true, and_parts, sum_by-cons, was_kept, each_found, Each-weaker, one_key, ties_itself}
use Rattle.rbac_decide.proofs.Common.{ties_flip, names_total, names_exact, is_authorized_iff, is_false, none_passes, any-append}
use Rattle.rbac_decide.proofs.CountingLemmas.{no_count, and_none, count_same, count_split, found_each}
use Rattle.rbac_decide.proofs.CountingSteps.{among_users}
use Rattle.rbac_decide.proofs.FreshLemmas.{each_constrained, constrained_alike, nobody_breaks}
use Rattle.rbac_decide.proofs.SeparationLemmas.{user_gains, others_gain_nothing, pair_gives}
use Rattle.rbac_decide.proofs.TouchedLemmas.{none_among}

-- ---- Numbers that are given, each the right one

-- whether a number is given for a set and a user
abbrev is_changed : List CountChange → Name → Name → Bool
is_changed changes s u = list_any (λ (c : CountChange). eq_by_cmp name_cmp s c.set && eq_by_cmp name_cmp u c.user) changes

-- each number is that of a table
abbrev AreRight : (Name → Name → ℕ) → List CountChange → Type 0
AreRight target changes = Each (λ (c : CountChange). c.number ≡ target c.set c.user) changes

right_where_changed : (target : Name → Name → ℕ) (changes : List CountChange) → AreRight target changes → (n : Name → Name → ℕ) (s u : Name)
    → with_numbers changes n s u ≡ cond (is_changed changes s u) (target s u) (n s u)
right_where_changed target [] right n s u = refl
right_where_changed target (c ∷ cs) right n s u =
    let later = right_where_changed target cs right.1 (with_number c.set c.user c.number n) s u in
    let set = ties_flip names_total names_exact c.set s in
    let user = ties_flip names_total names_exact c.user u in
    let same_set : eq_by_cmp name_cmp s c.set ≡ true → s ≡ c.set = one_key names_exact s c.set in
    let same_user : eq_by_cmp name_cmp u c.user ≡ true → u ≡ c.user = one_key names_exact u c.user in
    grind (arith, right.0)

each_both : {X : Type 0} (P : X → Type 0) (xs ys : List X) → Each P xs → Each P ys → Each P (xs ++ ys)
each_both P [] ys first second = second
each_both P (x ∷ xs) ys first second = (first.0, each_both P xs ys first.1 second)

-- a row for one user
module _ (user : Name) (g : Name × RoleSet → ℕ) where
  row_changed : (sets : List (Name × RoleSet)) (s u : Name) → is_changed (row_changes (names_of sets) user (map g sets)) s u ≡ (has name_cmp s (names_of sets) && eq_by_cmp name_cmp u user)
  row_changed [] s u = refl
  row_changed (e ∷ es) s u = grind (arith, row_changed es s u)

  row_right : (target : Name → Name → ℕ) (sets : List (Name × RoleSet)) → Each (λ e. g e ≡ target e.0 user) sets → AreRight target (row_changes (names_of sets) user (map g sets))
  row_right target [] all = tt
  row_right target (e ∷ es) all = (all.0, row_right target es all.1)

-- a row for each of several users
module _ (sets : List (Name × RoleSet)) (f : Name → Name × RoleSet → ℕ) where
  abbrev given : List Name → List CountChange
  given users = changes_of (names_of sets) users (map (λ user. map (f user) sets) users)

  all_changed : (users : List Name) (s u : Name) → is_changed (given users) s u ≡ (has name_cmp s (names_of sets) && has name_cmp u users)
  all_changed [] s u = grind arith
  all_changed (x ∷ xs) s u =
      let both = any-append (λ (c : CountChange). eq_by_cmp name_cmp s c.set && eq_by_cmp name_cmp u c.user) (row_changes (names_of sets) x (map (f x) sets)) (given xs) in
      grind (arith, row_changed x (f x) sets s u, all_changed xs s u)

  all_right : (target : Name → Name → ℕ) (users : List Name) → ((u : Name) → has name_cmp u users ≡ true → Each (λ e. f u e ≡ target e.0 u) sets) → AreRight target (given users)
  all_right target [] right = tt
  all_right target (x ∷ xs) right =
      each_both (λ (c : CountChange). c.number ≡ target c.set c.user) (row_changes (names_of sets) x (map (f x) sets)) (given xs)
      (row_right x (f x) target sets (right x (or_left _ _ (ties_itself names_total x))))
      (all_right target xs (λ u m. right u (or_right _ _ m)))

-- ---- The sets that have one of some roles

module _ (below : List Name) (P : Name × RoleSet → Type 0) where
  each_touched : (sets : List (Name × RoleSet)) → Each (λ e. P (e.0, cut_to below e.1)) sets → Each P (touched_sets below sets)
  each_touched [] all = tt
  each_touched (e ∷ es) all = go (touches below (Some e.1)) (each_touched es all.1)
    where
      go : (b : Bool) → Each P (touched_sets below es) → Each P (map {B = Name × RoleSet} (λ x. (x.0, cut_to below x.1)) (cond b (e ∷ filter (λ x. touches below (Some x.1)) es) (filter (λ x. touches below (Some x.1)) es)))
      go true later = (all.0, later)
      go false later = later

-- the roles that a user gets besides, of those that it is authorized for
module _ (below : List Name) (authorized : Name → Bool) where
  abbrev is_new : Name → Bool
  is_new r = has name_cmp r below && not (authorized r)

  count_kept : (roles : List Name) → count_by (λ r. not (authorized r)) (filter (λ r. has name_cmp r below) roles) ≡ count_by is_new roles
  count_kept [] = refl
  count_kept (x ∷ xs) =
      let rest = count_kept xs in
      let new = sum_by-cons (λ r. cond (is_new r) 1 0) x xs in
      let kept = sum_by-cons (λ r. cond (not (authorized r)) 1 0) x (filter (λ r. has name_cmp r below) xs) in
      grind arith

  none_new : (roles : List Name) → list_any (λ r. has name_cmp r below) roles ≡ false → count_by is_new roles ≡ 0
  none_new roles none = no_count is_new roles (none_among is_new (λ r. has name_cmp r below) (λ r new. (and_parts _ _ new).0) roles none)

  -- one of them is full with the roles besides where one of all sets is broken
  any_touched : (numbers : Name → ℕ) (sets : List (Name × RoleSet)) → Each (λ e. numbers e.0 ≡ count_by authorized e.1.roles) sets → Each (λ e. is_broken_by authorized e.1 ≡ false) sets
      → list_any (λ e. nat_le e.1.cardinality (numbers e.0 + count_by (λ r. not (authorized r)) e.1.roles)) (touched_sets below sets)
      ≡ list_any (λ e. is_broken_by (λ r. has name_cmp r below || authorized r) e.1) sets
  any_touched numbers [] are unbroken = refl
  any_touched numbers (e ∷ es) are unbroken =
      let whole = count_split (λ r. has name_cmp r below) authorized e.1.roles in
      let kept = count_kept e.1.roles in
      let none = none_new e.1.roles in
      grind (arith, are.0, unbroken.0, any_touched numbers es are.1 unbroken.1)

  -- a set that is none of them has no new role
  untouched : (s : Name) (sets : List (Name × RoleSet)) → has name_cmp s (names_of (touched_sets below sets)) ≡ false → count_in is_new (find name_cmp s sets) ≡ 0
  untouched s [] none = refl
  untouched s (e ∷ es) none = grind (arith, none_new e.1.roles, untouched s es)

-- ---- What a user gains by what a role inherits

module _ (s : State) (role : Name) (below : List Name) (are : (r : Name) → has name_cmp r below ≡ is_constrained_junior s role r) (user : Name) where
  constrained_is : (r : Name) → is_constrained r s.static_sets ≡ true → (inherits_in s role r || is_authorized s user r) ≡ (has name_cmp r below || is_authorized s user r)
  constrained_is r m = grind (arith, are r)

  pub gained : (after : Name → Bool) → ((r : Name) → after r ≡ (inherits_in s role r || is_authorized s user r)) → (set : Name)
      → count_in after (find name_cmp set s.static_sets) ≡ authorized_count s set user + count_in (λ r. has name_cmp r below && not (is_authorized s user r)) (find name_cmp set s.static_sets)
  gained after is set = go (find name_cmp set s.static_sets) refl
    where
      go : (o : Option RoleSet) → find name_cmp set s.static_sets ≡ o → count_in after o ≡ count_in (is_authorized s user) o + count_in (λ r. has name_cmp r below && not (is_authorized s user r)) o
      go None e = refl
      go (Some x) e =
          let constrained = each_found name_cmp (λ (y : RoleSet). (r : Name) → has name_cmp r y.roles ≡ true → is_constrained r s.static_sets ≡ true) set s.static_sets x e (each_constrained s.static_sets s.static_sets (λ r m. m)) in
          count_same after (λ r. has name_cmp r below || is_authorized s user r) x.roles (λ r m. is r ∙ constrained_is r (constrained r m))
          ∙ count_split (λ r. has name_cmp r below) (is_authorized s user) x.roles

  pub besides_is : list_any (λ e. is_broken_by (λ r. has name_cmp r below || is_authorized s user r) e.1) s.static_sets ≡ breaks_with s role user
  besides_is = ap (λ (f : Name → Bool). list_any (λ e. is_broken_by f e.1) s.static_sets) (λ i r. are r i || is_authorized s user r) ∙ constrained_alike s role user

-- ---- All that users come to

module _ (s : State) (role : Name) (below : List Name) (are : (r : Name) → has name_cmp r below ≡ is_constrained_junior s role r) where
  abbrev pub count_besides : Name → Name × RoleSet → ℕ
  count_besides user e = authorized_count s e.0 user + count_by (λ r. not (is_authorized s user r)) e.1.roles

  -- who comes to a set's own number breaks a set
  pub breaks_is : IsSound s → (user : Name) → list_any (λ e. nat_le e.1.cardinality (count_besides user e)) (touched_sets below s.static_sets) ≡ breaks_with s role user
  breaks_is h user =
      any_touched below (is_authorized s user) (λ set. authorized_count s set user) s.static_sets
      (Each-weaker (λ (e : Name × RoleSet). find name_cmp e.0 s.static_sets ≡ Some e.1) (λ (e : Name × RoleSet). authorized_count s e.0 user ≡ count_by (is_authorized s user) e.1.roles) s.static_sets
      (λ e found. ap (count_in (is_authorized s user)) found) (found_each names_total s.static_sets h.separation.static_sets.in_order))
      (none_passes (λ (e : Name × RoleSet). is_broken_by (is_authorized s user) e.1) s.static_sets (nobody_breaks s h user))
      ∙ besides_is s role below are user

  -- the counts of users that get the role and what it inherits, where all others are authorized as before
  pub tells : IsSound s → (users : List Name) (after : Name → Name → Bool)
      → ((u r : Name) → has name_cmp u users ≡ true → after u r ≡ (inherits_in s role r || is_authorized s u r))
      → ((u r : Name) → has name_cmp u users ≡ false → after u r ≡ is_authorized s u r)
      → (set u : Name) → with_numbers (given (touched_sets below s.static_sets) count_besides users) (authorized_count s) set u ≡ count_in (after u) (find name_cmp set s.static_sets)
  tells h users after gain stay set u =
      right_where_changed target (given sets count_besides users) (all_right sets count_besides target users (λ x m.
      each_touched below (λ e. count_besides x e ≡ target e.0 x) s.static_sets
      (Each-weaker (λ (e : Name × RoleSet). find name_cmp e.0 s.static_sets ≡ Some e.1) (λ (e : Name × RoleSet). count_besides x (e.0, cut_to below e.1) ≡ target e.0 x) s.static_sets
      (λ e found.
      ap (λ k. authorized_count s e.0 x + k) (count_kept below (is_authorized s x) e.1.roles ∙ sym (ap (count_in (is_new below (is_authorized s x))) found))
      ∙ sym (gains_of x m e.0))
      (found_each names_total s.static_sets h.separation.static_sets.in_order))))
      (authorized_count s) set u
      ∙ ap (λ b. cond b (target set u) (authorized_count s set u)) (all_changed sets count_besides users set u)
      ∙ go (has name_cmp set (names_of sets)) (has name_cmp u users) refl refl
    where
      sets : List (Name × RoleSet)
      sets = touched_sets below s.static_sets

      target : Name → Name → ℕ
      target x y = count_in (after y) (find name_cmp x s.static_sets)

      gains_of : (x : Name) → has name_cmp x users ≡ true → (y : Name) → target y x ≡ authorized_count s y x + count_in (is_new below (is_authorized s x)) (find name_cmp y s.static_sets)
      gains_of x m y = gained s role below are x (after x) (λ r. gain x r m) y

      stays_so : has name_cmp u users ≡ false → authorized_count s set u ≡ target set u
      stays_so m = sym (λ i. count_in (λ r. stay u r m i) (find name_cmp set s.static_sets))

      go : (a b : Bool) → has name_cmp set (names_of sets) ≡ a → has name_cmp u users ≡ b → cond (a && b) (target set u) (authorized_count s set u) ≡ target set u
      go true true p q = refl
      go true false p q = stays_so q
      go false false p q = stays_so q
      go false true p q = sym (gains_of u q set ∙ and_none (authorized_count s set u) _ (untouched below (is_authorized s u) set s.static_sets p))

-- ---- What is gathered of an assignment and of a pair of the hierarchy

module _ (t : Tables) (v : Vocabulary) (counts : Counts) (h : IsSound (state_of t v)) (counted : AreCountsBy t counts)
    (role : Name) (below : List Name) (are : (r : Name) → has name_cmp r below ≡ is_constrained_junior (state_of t v) role r) where
  same_counts : (user : Name) → counts_with t counts (touched_sets below t.static_sets.content) user ≡ map (count_besides (state_of t v) role below are user) (touched_sets below t.static_sets.content)
  same_counts user = λ i. map (λ (e : Name × RoleSet). counted e.0 user i + count_by (λ r. not (authorized_by t user r)) e.1.roles) (touched_sets below t.static_sets.content)

  pub breaks_so : (user : Name) → breaks_touched t counts (touched_sets below t.static_sets.content) user ≡ breaks_with (state_of t v) role user
  breaks_so user =
      (λ i. list_any (λ (e : Name × RoleSet). nat_le e.1.cardinality (counted e.0 user i + count_by (λ r. not (authorized_by t user r)) e.1.roles)) (touched_sets below t.static_sets.content))
      ∙ breaks_is (state_of t v) role below are h user

  told : (users : List Name) (after : Name → Name → Bool)
      → ((u r : Name) → has name_cmp u users ≡ true → after u r ≡ (inherits_in (state_of t v) role r || is_authorized (state_of t v) u r))
      → ((u r : Name) → has name_cmp u users ≡ false → after u r ≡ is_authorized (state_of t v) u r)
      → (changes : List CountChange)
      → changes ≡ changes_of (names_of (touched_sets below t.static_sets.content)) users (map (counts_with t counts (touched_sets below t.static_sets.content)) users)
      → (set u : Name) → with_numbers changes (authorized_count (state_of t v)) set u ≡ count_in (after u) (find name_cmp set t.static_sets.content)
  told users after gain stay changes is set u =
      (λ i. with_numbers (is i) (authorized_count (state_of t v)) set u)
      ∙ (λ i. with_numbers (changes_of (names_of (touched_sets below t.static_sets.content)) users (map (λ x. same_counts x i) users)) (authorized_count (state_of t v)) set u)
      ∙ tells (state_of t v) role below are h users after gain stay set u

  pub tells_assignment : (user : Name) (changes : List CountChange)
      → changes ≡ changes_of (names_of (touched_sets below t.static_sets.content)) (user ∷ []) (counts_with t counts (touched_sets below t.static_sets.content) user ∷ [])
      → TellsAfter (AssignUser user role) changes (state_of t v)
  tells_assignment user changes is set u =
      told (user ∷ []) (is_authorized (change (AssignUser user role) (state_of t v)))
      (λ x r m. (λ i. is_authorized (change (AssignUser user role) (state_of t v)) (one_key names_exact x user (alone (eq_by_cmp name_cmp x user) m) i) r)
      ∙ user_gains user role (state_of t v) r
      ∙ sym (λ i. inherits_in (state_of t v) role r || is_authorized (state_of t v) (one_key names_exact x user (alone (eq_by_cmp name_cmp x user) m) i) r))
      (λ x r m. others_gain_nothing user role (state_of t v) x (ties_flip names_total names_exact user x ∙ not_alone (eq_by_cmp name_cmp x user) m) r)
      changes is set u
    where
      alone : (b : Bool) → (b || false) ≡ true → b ≡ true
      alone b e = grind arith

      not_alone : (b : Bool) → (b || false) ≡ false → b ≡ false
      not_alone b e = grind arith

  pub tells_inheritance : (a : Name) → has name_cmp a t.hierarchy.content.roles ≡ true → has name_cmp role t.hierarchy.content.roles ≡ true → (changes : List CountChange)
      → changes ≡ changes_of (names_of (touched_sets below t.static_sets.content)) (authorized_users_by t a) (map (counts_with t counts (touched_sets below t.static_sets.content)) (authorized_users_by t a))
      → TellsAfter (AddInheritance a role) changes (state_of t v)
  tells_inheritance a is_a is_role changes is set u =
      told (authorized_users_by t a) (is_authorized then)
      (λ x r m. let gives = pair_gives a role s is_a is_role x r in let among = (was_kept names_total names_exact (λ z. authorized_by t z a) t.sets.content.users x m).0 in grind arith)
      (λ x r m. let gives = pair_gives a role s is_a is_role x r in
      let apart = is_false _ (λ e. false≢true (sym m ∙ among_users s h x a ((is_authorized_iff s x a).0 e))) in grind arith)
      changes is set u
    where
      s : State
      s = state_of t v

      then : State
      then = change (AddInheritance a role) (state_of t v)
