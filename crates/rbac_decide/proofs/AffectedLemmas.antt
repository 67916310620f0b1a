-- Which counts a command may change: sets that are gathered, and counts that are taken again.
use Rattle.std.proofs.Common.{ℕ, ◌+◌, ◌<◌, List, [], ◌∷◌, ◌++◌, length, get_or, take, Bool, true, false, cond, ◌&&◌, ◌≡◌, Option, Some, None, IfNone, Result, Ok, Err, IfOk, refl, sym, ap, ◌∙◌, arith}
use Rattle.rbac_decide.proofs.Common.{find, list_any, eq_by_cmp, has, change, Name, name_cmp, RoleSet, State, Command, DeleteUser, DeleteRole, AssignUser}
use Rattle.rbac_decide.proofs.Common.{DeassignUser, AddInheritance, DeleteInheritance, CreateSet, DeleteSet, AddRoleMember, DeleteRoleMember, AddRole}
use Rattle.rbac_decide.proofs.Common.{AddAscendant, AddDescendant, SetCardinality, Separation, Static, Dynamic, Counts, ArePlaced, numbers_of, without_user}
use Rattle.rbac_decide.proofs.Common.{names_of, authorized_users_by, juniors_by, count_by_tables, breaks_some, AreCountsBy, IsCommandStep, touches, is_touched}
use Rattle.rbac_decide.proofs.Common.{of_touched, of_set, may_change, gives_roles, without_static, remaining, IsPlanOf, TellsAfter, authorized_count}
use Rattle.rbac_decide.proofs.Common.{authorized_by, changes_gathered, IsGround, state_of, Tables, and_parts, and_from, false≢true, ties_flip, names_total}
use Rattle.rbac_decide.proofs.Common.{names_exact, is_false, any-append, any_one_more}
use Rattle.rbac_separation.specs.declared.count_plan.CountPlan.{CountPlan}
use Rattle.rbac_decide.specs.declared.gathered.Ground.{Ground}
use Rattle.rbac_decide.proofs.CountingSteps.{IsShift, IsSetStep, left, numbered, role_leaves, ascendant_leaves, descendant_leaves, deassigned_shift, deleted_role_shift, deleted_inheritance_shift, created_set, added_member, deleted_member, deleted_set, deleted_user}

-- ---- Sets that are gathered

-- one static set more: its name where it has one of the roles, and none where it has none
module _ (s : Name) (below : List Name) (sets : List (Name × RoleSet)) (i : ℕ) (e : Name × RoleSet) (lt : i < length sets) (is : e ≡ get_or sets i e) (names : List Name)
    (so_far : has name_cmp s names ≡ is_touched below s (take i sets)) where
  pub touched_more : touches below (Some e.1) ≡ true → has name_cmp s (names ++ e.0 ∷ []) ≡ is_touched below s (take (i + 1) sets)
  touched_more touched =
      let added = any-append (eq_by_cmp name_cmp s) names (e.0 ∷ []) in
      let more = any_one_more false (λ (x : Name × RoleSet). eq_by_cmp name_cmp s x.0 && touches below (Some x.1)) sets i e lt is in
      grind (arith, so_far)

  pub untouched_more : touches below (Some e.1) ≡ false → has name_cmp s names ≡ is_touched below s (take (i + 1) sets)
  untouched_more untouched =
      let more = any_one_more false (λ (x : Name × RoleSet). eq_by_cmp name_cmp s x.0 && touches below (Some x.1)) sets i e lt is in
      grind (arith, so_far)

-- where no set has one of the roles, none with any name has
pub nowhere_touched : (below : List Name) (sets : List (Name × RoleSet)) → list_any (λ e. touches below (Some e.1)) sets ≡ false → (set : Name) → is_touched below set sets ≡ false
nowhere_touched below [] none set = refl
nowhere_touched below (e ∷ es) none set =
    let later : list_any (λ x. touches below (Some x.1)) es ≡ false → is_touched below set es ≡ false = λ rest. nowhere_touched below es rest set in
    grind arith

-- nothing is touched where nothing was found that touches a set
pub nothing_touched : {A : Type 0} (s u : Name) (below users : List Name) (t : Tables) (found : Option A) → found ≡ None → IfNone found ((set : Name) → is_touched below set t.static_sets.content ≡ false)
    → false ≡ of_touched t below users s u
nothing_touched s u below users t None is none = sym (ap (λ b. b && has name_cmp u users) (none s))
nothing_touched s u below users t (Some x) is none = let never : ⊥ = cc in absurd never

-- a set that is found and has one of the roles is one with its name
found_touched : (below : List Name) (set : Name) (sets : List (Name × RoleSet)) → touches below (find name_cmp set sets) ≡ true → is_touched below set sets ≡ true
found_touched below set [] t = absurd (false≢true t)
found_touched below set (e ∷ es) t = grind (arith, found_touched below set es)

-- a plan of these sets and users
pub plan_of : {E : Type 0} (r : Result CountPlan E) (sets users : List Name) (affected : Name → Name → Bool) (counts : Counts) → IfOk r (λ p. names_of p.sets.items ≡ sets) → IfOk r (λ p. names_of p.users.items ≡ users)
    → IfOk r (λ p. ArePlaced p.sets.items p.users.items counts) → ((s u : Name) → (has name_cmp s sets && has name_cmp u users) ≡ affected s u) → IfOk r (IsPlanOf affected counts)
plan_of (Ok p) sets users affected counts of_sets of_users placed are = record {
  names = λ s u. (λ i. has name_cmp s (of_sets i) && has name_cmp u (of_users i)) ∙ are s u;
  placed = placed;
}
plan_of (Err e) sets users affected counts of_sets of_users placed are = tt

-- a plan of nothing, where nothing was found that touches a set
pub plan_of_nothing : {A E : Type 0} (r : Result CountPlan E) (t : Tables) (below users : List Name) (found : Option A) (counts : Counts) → found ≡ None → IfNone found ((set : Name) → is_touched below set t.static_sets.content ≡ false)
    → IfOk r (IsPlanOf (λ s u. false) counts) → IfOk r (IsPlanOf (of_touched t below users) counts)
plan_of_nothing (Ok p) t below users found counts is none planned = record {
  names = λ s u. planned.names s u ∙ nothing_touched s u below users t found is none;
  placed = planned.placed;
}
plan_of_nothing (Err e) t below users found counts is none planned = tt

-- what was gathered of a command that gives roles
pub tells_of : (c : Command) (s : State) (g : Ground) → gives_roles c ≡ true → IsGround c s g → TellsAfter c (changes_gathered g) s
tells_of (AssignUser user role) s g gives ground = ground
tells_of (AddInheritance a d) s g gives ground = ground
tells_of c s g gives ground = absurd (false≢true gives)

-- ---- What is right after a command where the counts of these sets and users are taken again

-- what is asked of these, and what they give
pub record IsRecountable (leaves : (Name → Name → ℕ) → Name → Name → ℕ) (after : Tables) (counts : Counts) (affected : Name → Name → Bool) : Type 0 where
  pub unbroken : (set user : Name) → affected set user ≡ true → breaks_some after user ≡ false
  pub right : (n : Name → Name → ℕ) → ((set user : Name) → n set user ≡ cond (affected set user) (count_by_tables after set user) (numbers_of counts set user))
      → (set user : Name) → leaves n set user ≡ count_by_tables after set user

module _ (before after : Tables) (counts : Counts) (counted : AreCountsBy before counts) (affected : Name → Name → Bool) where
  -- where all other counts are right
  by_others : ((set user : Name) → affected set user ≡ true → breaks_some after user ≡ false)
      → ((set user : Name) → affected set user ≡ false → numbers_of counts set user ≡ count_by_tables after set user) → IsRecountable (λ n. n) after counts affected
  by_others unbroken others = record {
    unbroken = unbroken;
    right = λ n made set user.
        let same = made set user in
        let other : affected set user ≡ false → numbers_of counts set user ≡ count_by_tables after set user = others set user in
        grind arith;
  }

  by_shift : (users below : List Name) → IsShift after users below counts → before.static_sets.content ≡ after.static_sets.content
      → ((set user : Name) → affected set user ≡ of_touched before below users set user) → IsRecountable (λ n. n) after counts affected
  by_shift users below shift same told = by_others
      (λ set user is. shift.unbroken user (and_parts _ _ (sym (told set user) ∙ is)).1)
      (λ set user is. shift.others set user (is_false _ (λ t.
      let both = and_parts _ _ t in
      let touched : is_touched below set before.static_sets.content ≡ true = ap (is_touched below set) same ∙ found_touched below set after.static_sets.content both.0 in
      false≢true (sym (sym (told set user) ∙ is) ∙ and_from _ _ touched both.1))))

  by_set : (kind : Separation) (name : Name) → IsSetStep kind name after counts → after.sets.content.users ≡ before.sets.content.users
      → ((set user : Name) → affected set user ≡ of_set kind name before set user) → IsRecountable (λ n. n) after counts affected
  by_set Static name step same told = by_others
      (λ set user is. step.unbroken user (ap (has name_cmp user) same ∙ (and_parts _ _ (sym (told set user) ∙ is)).1))
      (λ set user is. step.others refl set user ((λ i. ties_flip names_total names_exact name set i && has name_cmp user (same i)) ∙ sym (told set user) ∙ is))
  by_set Dynamic name step same told = by_others
      (λ set user is. absurd (false≢true (sym (told set user) ∙ is)))
      (λ set user is. step.all refl set user)

  -- where there is none
  by_none : (leaves : (Name → Name → ℕ) → Name → Name → ℕ) → ((set user : Name) → affected set user ≡ false) → ((set user : Name) → leaves (numbers_of counts) set user ≡ count_by_tables after set user)
      → IsRecountable leaves after counts affected
  by_none leaves none right = record {
    unbroken = λ set user is. absurd (false≢true (sym (none set user) ∙ is));
    right = λ n made set user. (λ i. leaves (same n made i) set user) ∙ right set user;
  }
    where
      same : (n : Name → Name → ℕ) → ((set user : Name) → n set user ≡ cond (affected set user) (count_by_tables after set user) (numbers_of counts set user)) → n ≡ numbers_of counts
      same n made = λ i set user. (made set user ∙ ap (λ b. cond b (count_by_tables after set user) (numbers_of counts set user)) (none set user)) i

  by_left : (c : Command) (step : IsCommandStep c before after) → ((set user : Name) → affected set user ≡ false)
      → ((set user : Name) → authorized_count (change c (state_of before step.vocabulary)) set user ≡ authorized_count (state_of before step.vocabulary) set user) → IsRecountable (λ n. n) after counts affected
  by_left c step told same = by_none (λ n. n) told (λ set user. left c before after step counts counted set user (same set user))

  pub recountable : (c : Command) → IsCommandStep c before after → gives_roles c ≡ false → ((set user : Name) → affected set user ≡ may_change c before set user) → IsRecountable (remaining c) after counts affected
  recountable (AssignUser user role) step takes told = absurd (false≢true (sym takes))
  recountable (DeassignUser user role) step takes told =
      by_shift (user ∷ []) (juniors_by before role) (deassigned_shift before after counts counted user role step) (sym (ap (λ (x : State). x.static_sets) step.made)) told
  recountable (DeleteRole role) step takes told =
      by_shift (authorized_users_by before role) (juniors_by before role) (deleted_role_shift before after counts counted role step) (sym (ap (λ (x : State). x.static_sets) step.made)) told
  recountable (AddInheritance a d) step takes told = absurd (false≢true (sym takes))
  recountable (DeleteInheritance a d) step takes told =
      by_shift (authorized_users_by before a) (juniors_by before d) (deleted_inheritance_shift before after counts counted a d step) (sym (ap (λ (x : State). x.static_sets) step.made)) told
  recountable (CreateSet Static name roles n) step takes told = by_set Static name (created_set before after counts counted Static name roles n step) (ap (λ (x : State). x.users) step.made) told
  recountable (CreateSet Dynamic name roles n) step takes told = by_set Dynamic name (created_set before after counts counted Dynamic name roles n step) (ap (λ (x : State). x.users) step.made) told
  recountable (AddRoleMember Static name role) step takes told = by_set Static name (added_member before after counts counted Static name role step) (ap (λ (x : State). x.users) step.made) told
  recountable (AddRoleMember Dynamic name role) step takes told = by_set Dynamic name (added_member before after counts counted Dynamic name role step) (ap (λ (x : State). x.users) step.made) told
  recountable (DeleteRoleMember Static name role) step takes told = by_set Static name (deleted_member before after counts counted Static name role step) (ap (λ (x : State). x.users) step.made) told
  recountable (DeleteRoleMember Dynamic name role) step takes told = by_set Dynamic name (deleted_member before after counts counted Dynamic name role step) (ap (λ (x : State). x.users) step.made) told
  recountable (DeleteUser user) step takes told = by_none (without_user user) told (deleted_user before after counts counted user step)
  recountable (DeleteSet kind name) step takes told = by_none (without_static kind name) told (deleted_set before after counts counted kind name step)
  recountable (AddRole role) step takes told = by_left (AddRole role) step told (role_leaves role (state_of before step.vocabulary) step.sound)
  recountable (AddAscendant a d) step takes told = by_left (AddAscendant a d) step told (ascendant_leaves a d (state_of before step.vocabulary) step.sound step.undenied)
  recountable (AddDescendant a d) step takes told = by_left (AddDescendant a d) step told (descendant_leaves a d (state_of before step.vocabulary) step.sound step.undenied)
  recountable (SetCardinality Static name n) step takes told = by_left (SetCardinality Static name n) step told (λ set user. numbered name set n (authorized_by before user) before.static_sets.content)
  recountable (SetCardinality Dynamic name n) step takes told = by_left (SetCardinality Dynamic name n) step told (λ set user. refl)
  recountable c step takes told = by_left c step told (λ set user. refl)
