-- Inheritance between roles (ANSI INCITS 359-2004, 5.2 Hierarchical RBAC). The standard's role hierarchy is a partial
-- order; here it is a set of declared pairs (ascendant, descendant), and the order is whatever they give.
use Rattle.std.specs.Prelude.{List, [], ◌∷◌, Bool, ◌||◌, ◌&&◌, ◌≡◌, IsTrue}
use Rattle.std.specs.List.{filter, list_any}
use Rattle.std.specs.Ordering.{eq_by_cmp}
use Rattle.sorted_keys.specs.Keys.{has}
use Rattle.rbac_terms.specs.Name.{Name, name_cmp, pair_cmp}

-- r, and then the names of the list, are roles; each two neighbours are a declared pair; and q is the last
abbrev pub IsChain : List Name → List (Name × Name) → Name → List Name → Name → Type 0
IsChain roles declared r [] q = IsTrue (has name_cmp r roles) × (r ≡ q)
IsChain roles declared r (p ∷ rest) q = IsTrue (has name_cmp r roles) × IsTrue (has pair_cmp (r, p) declared) × IsChain roles declared p rest q

-- r ≥ q, r inherits q: there is such a list
abbrev pub Inherits : List Name → List (Name × Name) → Name → Name → Type 0
Inherits roles declared r q = (rest : List Name) × IsChain roles declared r rest q

-- some chain leads from r to q, with only these names between them
unfoldable pub reaches_through : List (Name × Name) → List Name → Name → Name → Bool
reaches_through declared [] r q = eq_by_cmp name_cmp r q || has pair_cmp (r, q) declared
reaches_through declared (v ∷ vs) r q = reaches_through declared vs r q || (reaches_through declared vs r v && reaches_through declared vs v q)

-- inheritance as a test: the law `a_test_tells_inheritance` says that it tells `Inherits`
unfoldable pub inherits : List Name → List (Name × Name) → Name → Name → Bool
inherits roles declared r q = (has name_cmp r roles && has name_cmp q roles) && reaches_through declared roles r q

-- the roles that a role inherits, itself among them, and the roles that inherit it
abbrev pub juniors : List Name → List (Name × Name) → Name → List Name
juniors roles declared r = filter (λ q. inherits roles declared r q) roles

abbrev pub seniors : List Name → List (Name × Name) → Name → List Name
seniors roles declared q = filter (λ r. inherits roles declared r q) roles

-- whether a role is the ascendant of a declared pair
abbrev pub has_descendant : Name → List (Name × Name) → Bool
has_descendant role declared = list_any (λ pair. eq_by_cmp name_cmp role pair.0) declared
