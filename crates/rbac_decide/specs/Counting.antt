-- The counts that a policy keeps: for each static set and each user, of how many of its roles the user has the authorization.
use Rattle.std.specs.Prelude.{ℕ, List, [], ◌∷◌, map, Bool, true, false, ◌&&◌, ◌≡◌, Option, Some, None, count_by, filter}
use Rattle.rbac_decide.specs.Words.{find, list_any, eq_by_cmp, has, is_authorized, change, juniors, Name, name_cmp, first_denial, RoleSet, is_broken_by}
use Rattle.rbac_decide.specs.Words.{IsSound, State, Vocabulary, Command, DeleteUser, DeleteRole, AssignUser, DeassignUser, AddInheritance, DeleteInheritance}
use Rattle.rbac_decide.specs.Words.{CreateSet, DeleteSet, AddRoleMember, DeleteRoleMember, Separation, Static, Dynamic, Counts, CountChange, ArePlaced}
use Rattle.rbac_decide.specs.Words.{numbers_of, with_numbers, without_set, without_user, names_of, CountPlan}
use Rattle.rbac_decide.specs.declared.tables.Tables.{Tables}
use Rattle.rbac_decide.specs.Tables.{state_of, state_of_roles}

-- how many roles of a set pass a test, 0 where there is no set
abbrev pub count_in : (Name → Bool) → Option RoleSet → ℕ
count_in test None = 0
count_in test (Some set) = count_by test set.roles

-- for how many roles of the static set the user is authorized, inherited ones counted
abbrev pub authorized_count : State → Name → Name → ℕ
authorized_count s set user = count_in (is_authorized s user) (find name_cmp set s.static_sets)

-- the counts are these, for each set and each user
abbrev pub AreCounts : Counts → State → Type 0
AreCounts counts s = (set user : Name) → numbers_of counts set user ≡ authorized_count s set user

-- who is authorized for a role by the sets of a policy, and their counts
abbrev pub authorized_by : Tables → Name → Name → Bool
authorized_by t user role = is_authorized (state_of_roles t.sets.content t.hierarchy.content) user role

abbrev pub count_by_tables : Tables → Name → Name → ℕ
count_by_tables t set user = count_in (authorized_by t user) (find name_cmp set t.static_sets.content)

-- what a role inherits, and the users that are authorized for it
abbrev pub juniors_by : Tables → Name → List Name
juniors_by t role = juniors t.hierarchy.content.roles t.hierarchy.content.declared role

abbrev pub authorized_users_by : Tables → Name → List Name
authorized_users_by t role = filter (λ user. authorized_by t user role) t.sets.content.users

-- whether there is a set and one of its roles is among these
abbrev pub touches : List Name → Option RoleSet → Bool
touches below None = false
touches below (Some set) = list_any (λ r. has name_cmp r below) set.roles

-- a set with those of its roles alone that are among these
abbrev pub cut_to : List Name → RoleSet → RoleSet
cut_to below set = record { roles = filter (λ r. has name_cmp r below) set.roles; cardinality = set.cardinality }

-- the sets that have one of these roles, each with such roles alone
abbrev pub touched_sets : List Name → List (Name × RoleSet) → List (Name × RoleSet)
touched_sets below sets = map (λ e. (e.0, cut_to below e.1)) (filter (λ e. touches below (Some e.1)) sets)

abbrev pub AreCountsBy : Tables → Counts → Type 0
AreCountsBy t counts = (set user : Name) → numbers_of counts set user ≡ count_by_tables t set user

-- the sets of a policy after a command that is not denied, and before it
pub record IsCommandStep (command : Command) (before after : Tables) : Type 0 where
  pub vocabulary : Vocabulary
  pub sound : IsSound (state_of before vocabulary)
  pub undenied : first_denial command (state_of before vocabulary) ≡ None
  pub made : state_of after vocabulary ≡ change command (state_of before vocabulary)
  pub sound_after : IsSound (state_of after vocabulary)

-- the numbers without those of a static set
abbrev pub without_static : Separation → Name → (Name → Name → ℕ) → Name → Name → ℕ
without_static Static set numbers = without_set set numbers
without_static Dynamic set numbers = numbers

-- the numbers without those of the user or the static set that a command deletes
abbrev pub remaining : Command → (Name → Name → ℕ) → Name → Name → ℕ
remaining (DeleteUser user) = without_user user
remaining (DeleteSet kind set) = without_static kind set
remaining c = λ numbers. numbers

-- whether the user would break one of the static sets
abbrev pub breaks_some : Tables → Name → Bool
breaks_some t user = list_any (λ e. is_broken_by (authorized_by t user) e.1) t.static_sets.content

-- whether a set of this name has one of the roles
abbrev pub is_touched : List Name → Name → List (Name × RoleSet) → Bool
is_touched below set sets = list_any (λ e. eq_by_cmp name_cmp set e.0 && touches below (Some e.1)) sets

-- whether a set and a user are a static set that has one of the roles, and one of the users
abbrev pub of_touched : Tables → List Name → List Name → Name → Name → Bool
of_touched t below users set user = is_touched below set t.static_sets.content && has name_cmp user users

-- whether a set and a user are this static set, and any user
abbrev pub of_set : Separation → Name → Tables → Name → Name → Bool
of_set Static name t set user = eq_by_cmp name_cmp set name && has name_cmp user t.sets.content.users
of_set Dynamic name t set user = false

-- whether the command may change the count of a set and a user, other than by deleting one of them, or by what users get besides
abbrev pub may_change : Command → Tables → Name → Name → Bool
may_change (DeassignUser user role) t = of_touched t (juniors_by t role) (user ∷ [])
may_change (DeleteRole role) t = of_touched t (juniors_by t role) (authorized_users_by t role)
may_change (DeleteInheritance ascendant descendant) t = of_touched t (juniors_by t descendant) (authorized_users_by t ascendant)
may_change (CreateSet kind name roles n) t = of_set kind name t
may_change (AddRoleMember kind name role) t = of_set kind name t
may_change (DeleteRoleMember kind name role) t = of_set kind name t
may_change c t = λ set user. false

-- by these commands users become authorized for more roles, and for none less
abbrev pub gives_roles : Command → Bool
gives_roles (AssignUser user role) = true
gives_roles (AddInheritance ascendant descendant) = true
gives_roles c = false

-- with these numbers the counts are those after the command
abbrev pub TellsAfter : Command → List CountChange → State → Type 0
TellsAfter c changes s = (set user : Name) → with_numbers changes (authorized_count s) set user ≡ authorized_count (change c s) set user

-- whether a set and a user are of a plan
abbrev pub affects : CountPlan → Name → Name → Bool
affects plan set user = has name_cmp set (names_of plan.sets.items) && has name_cmp user (names_of plan.users.items)

-- a plan has places for the counts of these sets and users
pub record IsPlanOf (affected : Name → Name → Bool) (counts : Counts) (plan : CountPlan) : Type 0 where
  pub names : (set user : Name) → affects plan set user ≡ affected set user
  pub placed : ArePlaced plan.sets.items plan.users.items counts
