-- What a walk over the declared pairs finds.
use Rattle.std.specs.Prelude.{ℕ, ◌≡◌, ◌≤◌, ◌+◌, ◌⊎◌, IsTrue, List, length, not}
use Rattle.std.specs.List.{filter}
use Rattle.std.specs.List.Sorted.{IsStrictlySortedBy}
use Rattle.sorted_keys.specs.Keys.{has}
use Rattle.rbac_terms.specs.Name.{Name, name_cmp, pair_cmp}
use Rattle.rbac_terms.specs.Inheritance.{juniors}
use Rattle.rbac_hierarchy.specs.Rows.{RangesOver}

-- the names are the juniors of the role, whichever roles the pairs range over
abbrev pub AreJuniors : List (Name × Name) → Name → List Name → Type 0
AreJuniors declared role names = (roles : List Name) → IsStrictlySortedBy name_cmp roles → IsTrue (has name_cmp role roles) → RangesOver roles declared → names ≡ juniors roles declared role

-- how many pairs have a descendant that was not found
abbrev pub unfound : List Name → List (Name × Name) → ℕ
unfound found pairs = length (filter (λ p. not (has name_cmp p.1 found)) pairs)

-- from the names that were found and those of them that are pending, to those after the descendants of these pairs are
-- found, and pending where they were not found before
pub record FindsDescendants (pairs : List (Name × Name)) (found pending found_then pending_then : List Name) : Type 0 where
  pub in_order : IsStrictlySortedBy name_cmp found → IsStrictlySortedBy name_cmp found_then
  pub kept : (q : Name) → IsTrue (has name_cmp q found) → IsTrue (has name_cmp q found_then)
  pub still_pending : (q : Name) → IsTrue (has name_cmp q pending) → IsTrue (has name_cmp q pending_then)
  pub descendants : (a b : Name) → IsTrue (has pair_cmp (a, b) pairs) → IsTrue (has name_cmp b found_then)
  pub found_new : (q : Name) → IsTrue (has name_cmp q found_then) → IsTrue (has name_cmp q found) ⊎ (IsTrue (has name_cmp q pending_then) × ((a : Name) × IsTrue (has pair_cmp (a, q) pairs)))
  pub pending_new : (q : Name) → IsTrue (has name_cmp q pending_then) → IsTrue (has name_cmp q pending) ⊎ IsTrue (has name_cmp q found_then)
  pub fewer : (all : List (Name × Name)) → ((p : Name × Name) → IsTrue (has pair_cmp p pairs) → IsTrue (has pair_cmp p all)) → unfound found_then all + length pending_then ≤ unfound found all + length pending
