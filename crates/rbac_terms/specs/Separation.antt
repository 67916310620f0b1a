-- Separation of duty (ANSI INCITS 359-2004, 5.3 Constrained RBAC): named sets of roles, each with a number. Fewer than that
-- many roles of the set may come together: in what a user is authorized for (static), or in what is active in a session
-- (dynamic).
use Rattle.std.specs.Prelude.{ℕ, List, [], ◌∷◌, Bool, ◌&&◌, Option, Some, None, if◌then◌else◌, nat_le, length, count_by}
use Rattle.std.specs.List.{list_any}
use Rattle.sorted_keys.specs.Keys.{has}
use Rattle.rbac_terms.specs.Name.{Name, name_cmp}

-- a set of roles, sorted and without repeats, and its number (ANSI INCITS 359-2004, 5.3: a pair (rs, n) of SSD or DSD)
pub record RoleSet : Type 0 where
  pub roles : List Name
  pub cardinality : ℕ

-- 2 ≤ n ≤ |rs|
abbrev pub is_well_sized : RoleSet → Bool
is_well_sized set = nat_le 2 set.cardinality && nat_le set.cardinality (length set.roles)

-- n or more roles of the set pass a test
abbrev pub is_broken_by : (Name → Bool) → RoleSet → Bool
is_broken_by test set = nat_le set.cardinality (count_by test set.roles)

-- n or more roles of the set are among these
abbrev pub is_broken : List Name → RoleSet → Bool
is_broken roles set = is_broken_by (λ r. has name_cmp r roles) set

-- the first of the sets, by name, that is broken by these roles
abbrev pub first_broken : List Name → List (Name × RoleSet) → Option Name
first_broken roles [] = None
first_broken roles (e ∷ es) = if is_broken roles e.1 then Some e.0 else first_broken roles es

-- the role is in some set
abbrev pub is_constrained : Name → List (Name × RoleSet) → Bool
is_constrained role sets = list_any (λ e. has name_cmp role e.1.roles) sets
