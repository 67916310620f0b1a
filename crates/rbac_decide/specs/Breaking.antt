-- What would break separation of duty, asked of the state before the change.
use Rattle.std.specs.Prelude.{Bool, ◌||◌, ◌&&◌, Option}
use Rattle.rbac_decide.specs.Words.{list_any, first_where, option_map, inherits_in, is_authorized, Name, RoleSet, is_broken_by, is_broken, is_constrained}
use Rattle.rbac_decide.specs.Words.{State, Separation, Static, Dynamic}

-- the role inherits this one, which is in some static set
abbrev pub is_constrained_junior : State → Name → Name → Bool
is_constrained_junior s role r = inherits_in s role r && is_constrained r s.static_sets

-- the user would break a static set with this role and what it inherits besides
abbrev pub breaks_with : State → Name → Name → Bool
breaks_with s role user = list_any (λ e. is_broken_by (λ r. inherits_in s role r || is_authorized s user r) e.1) s.static_sets

-- some user who is authorized for the ascendant would break a static set with the descendant
abbrev pub breaks_below : State → Name → Name → Bool
breaks_below s ascendant descendant = list_any (λ user. is_authorized s user ascendant && breaks_with s descendant user) s.users

-- some user, or some session, would break the set
abbrev pub breaks_set : Separation → State → RoleSet → Bool
breaks_set Static s set = list_any (λ user. is_broken_by (is_authorized s user) set) s.users
breaks_set Dynamic s set = list_any (λ x. is_broken x.1.active set) s.sessions

-- the first user, or the first session, that would break the set
abbrev pub first_holder : Separation → State → RoleSet → Option Name
first_holder Static s set = first_where (λ user. is_broken_by (is_authorized s user) set) s.users
first_holder Dynamic s set = option_map (λ x. x.0) (first_where (λ x. is_broken x.1.active set) s.sessions)
