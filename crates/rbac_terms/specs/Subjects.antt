-- Who may perform an operation on an object: the users and the sessions of which a review lists the two as a permission.
use Rattle.std.specs.Prelude.{List, [], ◌∷◌, Option, map, filter, not}
use Rattle.sorted_keys.specs.Keys.{has}
use Rattle.rbac_terms.specs.Name.{Name, Permission, name_cmp, pair_cmp}
use Rattle.rbac_terms.specs.State.{State}
use Rattle.rbac_terms.specs.Reviews.{user_permissions, session_permissions}
use Rattle.rbac_terms.specs.Rows.{Precondition, ◌when◌, leftmost}
use Rattle.rbac_terms.specs.declared.answer.Denial.{Denial}
use Rattle.rbac_terms.specs.declared.answer.Denial.TheVariants.{NoOperation, NoObject}

-- the users that may, by a role that they are authorized for (ANSI INCITS 359-2004, 6.1.4 and 6.2: UserPermissions)
abbrev pub permitted_users : State → Permission → List Name
permitted_users s permission = filter (λ user. has pair_cmp permission (user_permissions s user)) s.users

-- the names of the sessions
abbrev pub session_names : State → List Name
session_names s = map (λ e. e.0) s.sessions

-- the sessions that may, by a role that is active in them (6.1.4: SessionPermissions)
abbrev pub permitted_sessions : State → Permission → List Name
permitted_sessions s permission = filter (λ session. has pair_cmp permission (session_permissions s session)) (session_names s)

-- why they are not listed: the first of the preconditions of CheckAccess on an operation and an object that fails (6.1.2)
abbrev pub subject_preconditions : Name → Name → State → List Precondition
subject_preconditions operation object s =
    (NoOperation when not (has name_cmp operation s.vocabulary.operations))
    ∷ (NoObject when not (has name_cmp object s.vocabulary.objects))
    ∷ []

abbrev pub subjects_denial : Name → Name → State → Option Denial
subjects_denial operation object s = leftmost (subject_preconditions operation object s)
