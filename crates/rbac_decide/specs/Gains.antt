-- The counts that users come to by roles that they get besides.
use Rattle.std.specs.Prelude.{ℕ, ◌+◌, ◌≡◌, List, map, Bool, true, false, not, ◌&&◌, Option, Some, None, count_by, nat_le, slice_get, filter}
use Rattle.rbac_decide.specs.Words.{list_any, filter_map, first_where, unwrap_or, Name, RoleSet, Counts, CountChange, numbers_of, at_place, changes_of}
use Rattle.rbac_decide.specs.Words.{names_of}
use Rattle.rbac_decide.specs.declared.tables.Tables.{Tables}
use Rattle.rbac_decide.specs.declared.gathered.Ground.{Ground}
use Rattle.rbac_decide.specs.declared.gains.CountedSet.{CountedSet}
use Rattle.rbac_decide.specs.declared.gains.Gains.{Gains}
use Rattle.rbac_decide.specs.declared.gains.Gains.TheVariants.{Told, Broken}
use Rattle.rbac_decide.specs.Counting.{authorized_by}

-- a set with the roles that it has of these, by their places among them
abbrev pub entry_of : List Name → CountedSet → Name × RoleSet
entry_of roles counted = (counted.set, record { roles = filter_map (slice_get roles) counted.roles.items; cardinality = counted.cardinality })

-- the number of a set in a user's row, with those of its roles that are new to the user
abbrev pub number_with : List ℕ → List Bool → CountedSet → ℕ
number_with row fresh counted = at_place row counted.place + count_by (λ k. unwrap_or (slice_get fresh k) false) counted.roles.items

-- which is the set's own or more
abbrev pub reaches : List ℕ → List Bool → CountedSet → Bool
reaches row fresh counted = nat_le counted.cardinality (number_with row fresh counted)

-- the user's number of a set with those of its roles that the user is not authorized for
abbrev pub count_with : Tables → Counts → Name → Name × RoleSet → ℕ
count_with t counts user e = numbers_of counts e.0 user + count_by (λ r. not (authorized_by t user r)) e.1.roles

-- the user's numbers of sets, and whether one is a set's own or more
abbrev pub counts_with : Tables → Counts → List (Name × RoleSet) → Name → List ℕ
counts_with t counts sets user = map (count_with t counts user) sets

abbrev pub breaks_touched : Tables → Counts → List (Name × RoleSet) → Name → Bool
breaks_touched t counts sets user = list_any (λ e. nat_le e.1.cardinality (count_with t counts user e)) sets

-- whether the user is one of those that are authorized for an ascendant, where there is one
abbrev pub receives : Tables → Option Name → Name → Bool
receives t None user = true
receives t (Some ascendant) user = authorized_by t user ascendant

-- the numbers that were gathered
abbrev pub changes_gathered : Ground → List CountChange
changes_gathered g = changes_of (g.sets.items) (g.users.items) (g.rows.items)

-- those of these users that receive roles have these numbers of the sets then, and none breaks one; or the first that does
abbrev pub AreGains : Tables → Counts → List (Name × RoleSet) → Option Name → List Name → Gains → Type 0
AreGains t counts sets ascendant users (Told g) =
    (changes_gathered g ≡ changes_of (names_of sets) (filter (receives t ascendant) users) (map (counts_with t counts sets) (filter (receives t ascendant) users)))
    × (first_where (λ user. receives t ascendant user && breaks_touched t counts sets user) users ≡ None)
AreGains t counts sets ascendant users (Broken user) = first_where (λ user. receives t ascendant user && breaks_touched t counts sets user) users ≡ Some user.now
