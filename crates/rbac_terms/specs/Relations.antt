-- What is asked of the pairs of UA, PA and RH, and what taking a user or a role out leaves of them.
use Rattle.std.specs.Prelude.{Bool, not, ◌||◌, List}
use Rattle.std.specs.List.{filter}
use Rattle.std.specs.Ordering.{eq_by_cmp}
use Rattle.sorted_keys.specs.Keys.{has}
use Rattle.rbac_terms.specs.Name.{Name, name_cmp, pair_cmp}

-- whether a pair begins with this name
abbrev pub begins_with : {A : Type 0} → Name → Name × A → Bool
begins_with name p = eq_by_cmp name_cmp name p.0

-- whether a pair ends with this name
abbrev pub ends_with : {A : Type 0} → Name → A × Name → Bool
ends_with name p = eq_by_cmp name_cmp name p.1

-- the users that the role is assigned to (ANSI INCITS 359-2004, 5.1: assigned_users)
abbrev pub users_of : Name → List Name → List (Name × Name) → List Name
users_of role users assigned = filter (λ u. has pair_cmp (u, role) assigned) users

-- the roles that are assigned to the user
abbrev pub roles_of : Name → List Name → List (Name × Name) → List Name
roles_of user roles assigned = filter (λ r. has pair_cmp (user, r) assigned) roles

-- UA without the pairs of a user
abbrev pub without_user : Name → List (Name × Name) → List (Name × Name)
without_user user pairs = filter (λ p. not (begins_with user p)) pairs

-- UA, or PA, without the pairs of a role
abbrev pub without_role : {A : Type 0} → Name → List (A × Name) → List (A × Name)
without_role role pairs = filter (λ p. not (ends_with role p)) pairs

-- RH without the pairs of a role
abbrev pub without_pairs_of : Name → List (Name × Name) → List (Name × Name)
without_pairs_of role pairs = filter (λ p. not (begins_with role p || ends_with role p)) pairs
