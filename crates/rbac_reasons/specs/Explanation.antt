-- What the names of a hindrance don't tell: the roles of a breach, the chain of a cycle, and how large a set would be.
use Rattle.std.specs.Prelude.{ℕ, ◌≡◌, List, length, Bool, true, false, Some, IsTrue}
use Rattle.std.specs.List.{filter}
use Rattle.std.specs.FinMap.Entries.{find}
use Rattle.sorted_keys.specs.Keys.{has}
use Rattle.rbac_terms.specs.Name.{Name, name_cmp}
use Rattle.rbac_terms.specs.Separation.{RoleSet, is_well_sized, is_broken_by}
use Rattle.rbac_terms.specs.State.{State}
use Rattle.rbac_terms.specs.Inheritance.{IsChain}
use Rattle.rbac_terms.specs.Authorization.{is_authorized}
use Rattle.rbac_terms.specs.Constraints.{sets_of}
use Rattle.rbac_terms.specs.Change.{change}
use Rattle.rbac_terms.specs.Reviews.{active_roles}
use Rattle.rbac_terms.specs.Rows.{is_session}
use Rattle.rbac_terms.specs.declared.separation.Separation.{Separation}
use Rattle.rbac_terms.specs.declared.separation.Separation.TheVariants.{Static, Dynamic}
use Rattle.rbac_terms.specs.declared.command.Command.{Command}
use Rattle.rbac_terms.specs.declared.answer.Denial.{Denial}
use Rattle.rbac_terms.specs.declared.answer.Denial.TheVariants as denial
use Rattle.rbac_decide.specs.Hindrance.{Hindrance, Named}
use Rattle.rbac_decide.specs.Hindrance.Named.{a_pair, a_set, a_breach}
use Rattle.rbac_reasons.specs.declared.told.Explanation.{Explanation}
use Rattle.rbac_reasons.specs.declared.told.Explanation.TheVariants.{Nothing, Breach, Cycle, Size}

-- the user is authorized for the role (ANSI INCITS 359-2004, 5.2: authorized_users), or the role is active in the session (5.1:
-- session_roles): what static separation counts, and what dynamic separation counts (5.3)
abbrev pub holds : Separation → State → Name → Name → Bool
holds Static s user role = is_authorized s user role
holds Dynamic s session role = has name_cmp role (active_roles s session)

-- it is one of the users, or of the sessions
abbrev pub is_holder : Separation → State → Name → Bool
is_holder Static s user = has name_cmp user s.users
is_holder Dynamic s session = is_session s session

-- in this state these are the roles of the set that the user, or the session, has, this is the set's number, and they are as many or
-- more
abbrev pub Breaks : Separation → State → Name → Name → List Name → ℕ → Type 0
Breaks kind s holder set roles number =
    (x : RoleSet) × (find name_cmp set (sets_of kind s) ≡ Some x) × (x.cardinality ≡ number) × IsTrue (is_holder kind s holder) × IsTrue (is_broken_by (holds kind s holder) x)
    × (roles ≡ filter (holds kind s holder) x.roles)

-- in this state the set has this many roles and this number, and 2 ≤ n ≤ |rs| does not hold
abbrev pub IsBadlySized : Separation → State → Name → ℕ → ℕ → Type 0
IsBadlySized kind s set size number = (x : RoleSet) × (find name_cmp set (sets_of kind s) ≡ Some x) × (length x.roles ≡ size) × (x.cardinality ≡ number) × (is_well_sized x ≡ false)

-- whether the names tell all that makes the precondition fail
abbrev pub is_told_by_names : Denial → Named → Bool
is_told_by_names d (a_breach kind holder set) = false
is_told_by_names denial.Cycle (a_pair ascendant descendant) = false
is_told_by_names denial.BadCardinality (a_set kind set) = false
is_told_by_names d names = true

-- what is told besides the names of a hindrance. What separation asks, and the size of a set, is said of the state that the change
-- would give; the chain is one of the state before it
abbrev pub Explains : Command → State → Hindrance → Explanation → Type 0
Explains c s h (Breach roles number) = (kind : Separation) × (holder : Name) × (set : Name) × (h.named ≡ a_breach kind holder set) × Breaks kind (change c s) holder set roles number
Explains c s h (Cycle chain) = (h.denial ≡ denial.Cycle) × (h.named ≡ a_pair chain.last chain.first) × IsChain s.roles s.declared chain.first chain.rest.items chain.last
Explains c s h (Size size number) = (kind : Separation) × (set : Name) × (h.denial ≡ denial.BadCardinality) × (h.named ≡ a_set kind set) × IsBadlySized kind (change c s) set size number
Explains c s h Nothing = is_told_by_names h.denial h.named ≡ true
