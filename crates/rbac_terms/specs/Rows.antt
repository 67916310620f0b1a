-- The preconditions of each command, in order, and the first that fails.
use Rattle.std.specs.Prelude.{List, [], ◌∷◌, Bool, false, not, ◌&&◌, ◌||◌, if◌then◌else◌, nat_le, length, Option, Some, None, is_some}
use Rattle.std.specs.List.{list_all}
use Rattle.std.specs.FinMap.Entries.{find}
use Rattle.std.specs.Ordering.{eq_by_cmp}
use Rattle.sorted_keys.specs.Keys.{has}
use Rattle.rbac_terms.specs.Name.{Name, name_cmp, pair_cmp, grant_cmp}
use Rattle.rbac_terms.specs.Limits.{most_users, most_roles, most_sessions, most_sets}
use Rattle.rbac_terms.specs.Separation.{is_constrained}
use Rattle.rbac_terms.specs.Vocabulary.{is_limited}
use Rattle.rbac_terms.specs.Inheritance.{has_descendant}
use Rattle.rbac_terms.specs.State.{State}
use Rattle.rbac_terms.specs.Authorization.{inherits_in, is_authorized}
use Rattle.rbac_terms.specs.Constraints.{sets_of, is_violated, violation, is_badly_sized}
use Rattle.rbac_terms.specs.Change.{change}
use Rattle.rbac_terms.specs.declared.separation.Separation.{Separation}
use Rattle.rbac_terms.specs.declared.separation.Separation.TheVariants.{Static, Dynamic}
use Rattle.rbac_terms.specs.declared.command.Command.{Command}
use Rattle.rbac_terms.specs.declared.command.Command.TheVariants.{AddUser, DeleteUser, AddRole, DeleteRole, AssignUser, DeassignUser, GrantPermission, RevokePermission, AddInheritance, DeleteInheritance, AddAscendant, AddDescendant, CreateSet, DeleteSet, AddRoleMember, DeleteRoleMember, SetCardinality, CreateSession, DeleteSession, AddActiveRole, DropActiveRole, CheckAccess, Review as ReviewCommand}
use Rattle.rbac_terms.specs.declared.review.Review.{Review}
use Rattle.rbac_terms.specs.declared.review.Review.TheVariants.{AssignedUsers, AssignedRoles, AuthorizedUsers, AuthorizedRoles, RolePermissions, UserPermissions, SessionRoles, SessionPermissions, RoleOperationsOnObject, UserOperationsOnObject, RoleSets, RoleSetRoles, RoleSetCardinality}
use Rattle.rbac_terms.specs.declared.answer.Denial.{Denial}
use Rattle.rbac_terms.specs.declared.answer.Denial.TheVariants.{UserExists, NoUser, RoleExists, NoRole, Assigned, NotAssigned, NoPermission, NotGranted, SessionExists, NoSession, NotOwner, NotAuthorized, RoleActive, RoleNotActive, Inherits, NoInheritance, Cycle, SsdViolated, DsdViolated, SetExists, NoSet, BadCardinality, InSet, NotInSet, RoleConstrained, Limit, NoOperation, NoObject, Limited}

-- a precondition: the denial that names it, and whether it fails
pub record Precondition : Type 0 where
  pub denial : Denial
  pub fails : Bool

infix 4 ◌when◌
abbrev pub ◌when◌ : Denial → Bool → Precondition
d when b = record { denial = d; fails = b }

-- the leftmost of these that fails
abbrev pub leftmost : List Precondition → Option Denial
leftmost [] = None
leftmost (p ∷ ps) = if p.fails then Some p.denial else leftmost ps

-- whether a name is that of a session
abbrev pub is_session : State → Name → Bool
is_session s session = is_some (find name_cmp session s.sessions)

-- whether there is one, and this is so of it
abbrev pub found_and : {A : Type 0} → (A → Bool) → Option A → Bool
found_and test None = false
found_and test (Some x) = test x

-- whether the session is the user's
abbrev pub is_owner : State → Name → Name → Bool
is_owner s session user = found_and (λ x. eq_by_cmp name_cmp user x.owner) (find name_cmp session s.sessions)

-- whether the role is active in the session
abbrev pub is_active : State → Name → Name → Bool
is_active s session role = found_and (λ x. has name_cmp role x.active) (find name_cmp session s.sessions)

-- whether a name is that of a set of the kind
abbrev pub is_set : Separation → State → Name → Bool
is_set kind s set = is_some (find name_cmp set (sets_of kind s))

-- whether the role is in the set of the kind
abbrev pub is_member : Separation → State → Name → Name → Bool
is_member kind s set role = found_and (λ x. has name_cmp role x.roles) (find name_cmp set (sets_of kind s))

-- whether both are roles
abbrev pub are_roles : State → Name → Name → Bool
are_roles s first second = has name_cmp first s.roles && has name_cmp second s.roles

-- whether the role may have no declared descendant more: the hierarchy is limited, and it has one (ANSI INCITS 359-2004, 5.2:
-- Limited Role Hierarchies)
abbrev pub is_limited_at : State → Name → Bool
is_limited_at s role = is_limited s.vocabulary.hierarchy && has_descendant role s.declared

-- the preconditions of a review, from left to right (ANSI INCITS 359-2004, 6.1.3, 6.1.4 and the review functions of 6.2 to 6.4)
abbrev pub review_preconditions : Review → State → List Precondition
review_preconditions (AssignedUsers role) s =
    (NoRole when not (has name_cmp role s.roles))
    ∷ []
review_preconditions (AssignedRoles user) s =
    (NoUser when not (has name_cmp user s.users))
    ∷ []
review_preconditions (AuthorizedUsers role) s =
    (NoRole when not (has name_cmp role s.roles))
    ∷ []
review_preconditions (AuthorizedRoles user) s =
    (NoUser when not (has name_cmp user s.users))
    ∷ []
review_preconditions (RolePermissions role) s =
    (NoRole when not (has name_cmp role s.roles))
    ∷ []
review_preconditions (UserPermissions user) s =
    (NoUser when not (has name_cmp user s.users))
    ∷ []
review_preconditions (SessionRoles session) s =
    (NoSession when not (is_session s session))
    ∷ []
review_preconditions (SessionPermissions session) s =
    (NoSession when not (is_session s session))
    ∷ []
review_preconditions (RoleOperationsOnObject role object) s =
    (NoRole when not (has name_cmp role s.roles))
    ∷ (NoObject when not (has name_cmp object s.vocabulary.objects))
    ∷ []
review_preconditions (UserOperationsOnObject user object) s =
    (NoUser when not (has name_cmp user s.users))
    ∷ (NoObject when not (has name_cmp object s.vocabulary.objects))
    ∷ []
review_preconditions (RoleSets kind) s = []
review_preconditions (RoleSetRoles kind set) s =
    (NoSet when not (is_set kind s set))
    ∷ []
review_preconditions (RoleSetCardinality kind set) s =
    (NoSet when not (is_set kind s set))
    ∷ []

-- the preconditions of a command, from left to right (ANSI INCITS 359-2004, 6.1.1, 6.1.2 and 6.2 to 6.4; their names, their
-- order and the limits are this project's own). What separation asks, and the size of a set, is tried on the state that the
-- change would give
abbrev pub preconditions : Command → State → List Precondition
preconditions (AddUser user) s =
    (UserExists when has name_cmp user s.users)
    ∷ (Limit when nat_le most_users (length s.users))
    ∷ []
preconditions (DeleteUser user) s =
    (NoUser when not (has name_cmp user s.users))
    ∷ []
preconditions (AddRole role) s =
    (RoleExists when has name_cmp role s.roles)
    ∷ (Limit when nat_le most_roles (length s.roles))
    ∷ []
preconditions (DeleteRole role) s =
    (NoRole when not (has name_cmp role s.roles))
    ∷ (RoleConstrained when is_constrained role s.static_sets || is_constrained role s.dynamic_sets)
    ∷ []
preconditions (AssignUser user role) s =
    (NoUser when not (has name_cmp user s.users))
    ∷ (NoRole when not (has name_cmp role s.roles))
    ∷ (Assigned when has pair_cmp (user, role) s.assigned)
    ∷ (SsdViolated when is_violated Static (change (AssignUser user role) s))
    ∷ []
preconditions (DeassignUser user role) s =
    (NoUser when not (has name_cmp user s.users))
    ∷ (NoRole when not (has name_cmp role s.roles))
    ∷ (NotAssigned when not (has pair_cmp (user, role) s.assigned))
    ∷ []
preconditions (GrantPermission operation object role) s =
    (NoPermission when not (has pair_cmp (operation, object) s.vocabulary.permissions))
    ∷ (NoRole when not (has name_cmp role s.roles))
    ∷ []
preconditions (RevokePermission operation object role) s =
    (NoPermission when not (has pair_cmp (operation, object) s.vocabulary.permissions))
    ∷ (NoRole when not (has name_cmp role s.roles))
    ∷ (NotGranted when not (has grant_cmp ((operation, object), role) s.granted))
    ∷ []
preconditions (AddInheritance ascendant descendant) s =
    (NoRole when not (are_roles s ascendant descendant))
    ∷ (Inherits when has pair_cmp (ascendant, descendant) s.declared)
    ∷ (Cycle when inherits_in s descendant ascendant)
    ∷ (Limited when is_limited_at s ascendant)
    ∷ (SsdViolated when is_violated Static (change (AddInheritance ascendant descendant) s))
    ∷ []
preconditions (DeleteInheritance ascendant descendant) s =
    (NoRole when not (are_roles s ascendant descendant))
    ∷ (NoInheritance when not (has pair_cmp (ascendant, descendant) s.declared))
    ∷ []
preconditions (AddAscendant ascendant descendant) s =
    (RoleExists when has name_cmp ascendant s.roles)
    ∷ (NoRole when not (has name_cmp descendant s.roles))
    ∷ (Limit when nat_le most_roles (length s.roles))
    ∷ []
preconditions (AddDescendant ascendant descendant) s =
    (RoleExists when has name_cmp descendant s.roles)
    ∷ (NoRole when not (has name_cmp ascendant s.roles))
    ∷ (Limited when is_limited_at s ascendant)
    ∷ (Limit when nat_le most_roles (length s.roles))
    ∷ []
preconditions (CreateSet kind set roles n) s =
    (SetExists when is_set kind s set)
    ∷ (NoRole when not (list_all (λ role. has name_cmp role s.roles) roles))
    ∷ (BadCardinality when is_badly_sized kind (change (CreateSet kind set roles n) s))
    ∷ (violation kind when is_violated kind (change (CreateSet kind set roles n) s))
    ∷ (Limit when nat_le most_sets (length (sets_of kind s)))
    ∷ []
preconditions (DeleteSet kind set) s =
    (NoSet when not (is_set kind s set))
    ∷ []
preconditions (AddRoleMember kind set role) s =
    (NoSet when not (is_set kind s set))
    ∷ (NoRole when not (has name_cmp role s.roles))
    ∷ (InSet when is_member kind s set role)
    ∷ (violation kind when is_violated kind (change (AddRoleMember kind set role) s))
    ∷ []
preconditions (DeleteRoleMember kind set role) s =
    (NoSet when not (is_set kind s set))
    ∷ (NotInSet when not (is_member kind s set role))
    ∷ (BadCardinality when is_badly_sized kind (change (DeleteRoleMember kind set role) s))
    ∷ []
preconditions (SetCardinality kind set n) s =
    (NoSet when not (is_set kind s set))
    ∷ (BadCardinality when is_badly_sized kind (change (SetCardinality kind set n) s))
    ∷ (violation kind when is_violated kind (change (SetCardinality kind set n) s))
    ∷ []
preconditions (CreateSession user session roles) s =
    (NoUser when not (has name_cmp user s.users))
    ∷ (SessionExists when is_session s session)
    ∷ (NotAuthorized when not (list_all (is_authorized s user) roles))
    ∷ (DsdViolated when is_violated Dynamic (change (CreateSession user session roles) s))
    ∷ (Limit when nat_le most_sessions (length s.sessions))
    ∷ []
preconditions (DeleteSession user session) s =
    (NoUser when not (has name_cmp user s.users))
    ∷ (NoSession when not (is_session s session))
    ∷ (NotOwner when not (is_owner s session user))
    ∷ []
preconditions (AddActiveRole user session role) s =
    (NoUser when not (has name_cmp user s.users))
    ∷ (NoSession when not (is_session s session))
    ∷ (NoRole when not (has name_cmp role s.roles))
    ∷ (NotOwner when not (is_owner s session user))
    ∷ (NotAuthorized when not (is_authorized s user role))
    ∷ (RoleActive when is_active s session role)
    ∷ (DsdViolated when is_violated Dynamic (change (AddActiveRole user session role) s))
    ∷ []
preconditions (DropActiveRole user session role) s =
    (NoUser when not (has name_cmp user s.users))
    ∷ (NoSession when not (is_session s session))
    ∷ (NoRole when not (has name_cmp role s.roles))
    ∷ (NotOwner when not (is_owner s session user))
    ∷ (RoleNotActive when not (is_active s session role))
    ∷ []
preconditions (CheckAccess session operation object) s =
    (NoSession when not (is_session s session))
    ∷ (NoOperation when not (has name_cmp operation s.vocabulary.operations))
    ∷ (NoObject when not (has name_cmp object s.vocabulary.objects))
    ∷ []
preconditions (ReviewCommand review) s = review_preconditions review s

-- the first failing precondition
abbrev pub first_denial : Command → State → Option Denial
first_denial c s = leftmost (preconditions c s)
