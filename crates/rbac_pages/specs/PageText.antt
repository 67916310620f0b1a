-- What a policy holds, as a page for people: a line for each user, role, grant, session and set, in the order of the state.
use Rattle.std.specs.Prelude.{ℕ, List, [], ◌∷◌, ◌++◌, codes, decimal, filter, if◌then◌else◌}
use Rattle.std.specs.List.{flat_map}
use Rattle.std.specs.Ordering.{eq_by_cmp}
use Rattle.rbac_terms.specs.Name.{Name, Grant, name_cmp}
use Rattle.rbac_terms.specs.Separation.{RoleSet}
use Rattle.rbac_terms.specs.State.{State, Session}

-- a part of the page that has nothing says so
abbrev pub none_text : {X : Type 0} → List X → List ℕ
none_text [] = codes "  none\n"
none_text (x ∷ xs) = []

-- a name, and the second name of a pair, behind a blank
abbrev pub name_text : Name → List ℕ
name_text name = codes " " ++ name

abbrev pub second_text : Name × Name → List ℕ
second_text pair = codes " " ++ pair.1

-- ---- Users and roles

--   lena: clerk head_nurse
-- a user, and the roles that it is assigned
abbrev pub user_text : State → Name → List ℕ
user_text s user = codes "  " ++ user ++ codes ":" ++ flat_map second_text (filter (λ pair. eq_by_cmp name_cmp user pair.0) s.assigned) ++ codes "\n"

-- the roles that a role is declared above, if there are any
abbrev pub descendants_text : List (Name × Name) → List ℕ
descendants_text [] = []
descendants_text (pair ∷ pairs) = codes " inherits" ++ flat_map second_text (pair ∷ pairs)

--     may read record
-- a grant, if it is one of this role
abbrev pub grant_text : Name → Grant → List ℕ
grant_text role grant =
    if eq_by_cmp name_cmp role grant.1
    then codes "    may " ++ grant.0.0 ++ codes " " ++ grant.0.1 ++ codes "\n"
    else []

--   doctor inherits staff
-- a role, and the roles that it is declared above
unfoldable pub role_line : State → Name → List ℕ
role_line s role = codes "  " ++ role ++ descendants_text (filter (λ pair. eq_by_cmp name_cmp role pair.0) s.declared) ++ codes "\n"

-- and then its own grants
abbrev pub role_text : State → Name → List ℕ
role_text s role = role_line s role ++ flat_map (grant_text role) s.granted

-- ---- Sessions and sets

--   counter of omar: pharmacist
-- a session, its owner, and its active roles
abbrev pub session_text : Name × Session → List ℕ
session_text entry = codes "  " ++ entry.0 ++ codes " of " ++ entry.1.owner ++ codes ":" ++ flat_map name_text entry.1.active ++ codes "\n"

--   ward_or_desk, n = 2: clerk head_nurse
-- a set, its number, and its roles
abbrev pub set_text : Name × RoleSet → List ℕ
set_text entry = codes "  " ++ entry.0 ++ codes ", n = " ++ decimal entry.1.cardinality ++ codes ":" ++ flat_map name_text entry.1.roles ++ codes "\n"

-- ---- The page

-- a part of the page: what it is about, and a text for each thing of it
unfoldable pub part_text : {X : Type 0} → List ℕ → (X → List ℕ) → List X → List ℕ
part_text head text_of things = head ++ none_text things ++ flat_map text_of things

abbrev pub page_text : State → List ℕ
page_text s =
    part_text (codes "users, and the roles that each is assigned\n") (user_text s) s.users
    ++ part_text (codes "roles, the roles that each is declared to inherit, and its own grants\n") (role_text s) s.roles
    ++ part_text (codes "sessions, the owner of each, and its active roles\n") session_text s.sessions
    ++ part_text (codes "static sets: no user is authorized for n or more of the roles\n") set_text s.static_sets
    ++ part_text (codes "dynamic sets: no session has n or more of the roles active\n") set_text s.dynamic_sets
