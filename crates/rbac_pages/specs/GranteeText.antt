-- Who may do what: the roles that have a permission, and the users and sessions that have it by one of them.
use Rattle.std.specs.Prelude.{◌≡◌, ℕ, List, [], ◌++◌, codes, filter, Bool, true, false, Option, Some, None}
use Rattle.std.specs.List.{flat_map, list_any, find as first_where}
use Rattle.sorted_keys.specs.Keys.{has}
use Rattle.rbac_terms.specs.Name.{Name, Permission, name_cmp, pair_cmp, grant_cmp}
use Rattle.rbac_terms.specs.Inheritance.{juniors}
use Rattle.rbac_terms.specs.Authorization.{is_authorized}
use Rattle.rbac_terms.specs.State.{State, Session}
use Rattle.rbac_pages.specs.declared.explanation.Explanation.{Explanation}
use Rattle.rbac_pages.specs.declared.explanation.Verdict.TheVariants.{Allowed, Denied}

-- the role, or one that it inherits, is granted the permission (ANSI INCITS 359-2004, 5.2: authorized_permissions)
abbrev pub is_grantee : State → Permission → Name → Bool
is_grantee s permission role = list_any (λ junior. has grant_cmp (permission, junior) s.granted) (juniors s.roles s.declared role)

-- the roles of which that is so
abbrev pub grantees : State → Permission → List Name
grantees s permission = filter (is_grantee s permission) s.roles

-- by a role, if there is one
abbrev pub by_role_text : List ℕ → Option Name → List ℕ
by_role_text who None = []
by_role_text who (Some role) = who ++ codes " by role " ++ role ++ codes "\n"

--   mara by role nurse
-- a user that may, by the first of these roles that it is authorized for
abbrev pub may_text : State → List Name → Name → List ℕ
may_text s roles user = by_role_text (codes "  " ++ user) (first_where (is_authorized s user) roles)

--   round of mara by role nurse
-- a session that may, by the first of these roles that is active in it
abbrev pub session_may_text : List Name → Name × Session → List ℕ
session_may_text roles entry = by_role_text (codes "  " ++ entry.0 ++ codes " of " ++ entry.1.owner) (first_where (λ role. has name_cmp role entry.1.active) roles)

abbrev pub who_has_text : State → Permission → List ℕ
who_has_text s permission =
    codes "users that are authorized for a role with the permission\n" ++ flat_map (may_text s (grantees s permission)) s.users
    ++ (codes "sessions in which such a role is active\n" ++ flat_map (session_may_text (grantees s permission)) s.sessions)

abbrev pub no_permission_text : Permission → List ℕ
no_permission_text permission = codes "Denied: NoPermission: the founding has no permission " ++ permission.0 ++ codes " on " ++ permission.1 ++ codes "\n"

-- who has the permission, if the founding has it
abbrev pub TellsIf : Bool → State → Permission → Explanation → Type 0
TellsIf true s permission told = (told.verdict ≡ Allowed) × (told.text.items ≡ who_has_text s permission)
TellsIf false s permission told = (told.verdict ≡ Denied) × (told.text.items ≡ no_permission_text permission)

abbrev pub TellsWho : State → Permission → Explanation → Type 0
TellsWho s permission told = TellsIf (has pair_cmp permission s.vocabulary.permissions) s permission told
