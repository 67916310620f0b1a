-- A walk down the declared pairs.
use Rattle.std.specs.Prelude.{List, [], ◌∷◌, ◌++◌, IsTrue, Option, Some, None, if◌then◌else◌}
use Rattle.sorted_keys.specs.Keys.{has, with_key}
use Rattle.rbac_terms.specs.Name.{Name, name_cmp, pair_cmp}

-- the names that were found, the pairs by which, the latest first, and the names whose pairs were not looked at yet
pub record Walk : Type 0 where
  pub found : List Name
  pub trail : List (Name × Name)
  pub pending : List Name

abbrev pub begun_at : List Name → Walk
begun_at starts = record { found = starts; trail = []; pending = starts }

abbrev pub first_of : List Name → Option Name
first_of [] = None
first_of (x ∷ xs) = Some x

abbrev pub after_first : List Name → List Name
after_first [] = []
after_first (x ∷ xs) = xs

abbrev pub next_of : Walk → Option Name
next_of w = first_of w.pending

abbrev pub after_next : Walk → Walk
after_next w = record w { pending = after_first w.pending }

-- the walk where a pair was looked at: its descendant is found by it, unless it was found before
abbrev pub visited : Name × Name → Walk → Walk
visited pair w = if has name_cmp pair.1 w.found then w else record { found = with_key name_cmp pair.1 w.found; trail = pair ∷ w.trail; pending = w.pending ++ (pair.1 ∷ []) }

abbrev pub all_visited : List (Name × Name) → Walk → Walk
all_visited [] w = w
all_visited (pair ∷ pairs) w = all_visited pairs (visited pair w)

-- the names with which a walk began, and those that the pairs of its trail found
abbrev pub found_by : List Name → List (Name × Name) → List Name
found_by starts [] = starts
found_by starts (pair ∷ older) = pair.1 ∷ found_by starts older

-- each pair of the trail is declared, and led from a name that was found before
abbrev pub IsTrail : List Name → List (Name × Name) → List (Name × Name) → Type 0
IsTrail starts declared [] = Unit {0}
IsTrail starts declared (pair ∷ older) = IsTrue (has pair_cmp pair declared) × IsTrue (has name_cmp pair.0 (found_by starts older)) × IsTrail starts declared older
