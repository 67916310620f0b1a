-- Chains of declared pairs between roles.
use Rattle.std.specs.Prelude.{◌≡◌, ◌↔◌, false, List, [], ◌∷◌, IsTrue}
use Rattle.sorted_keys.specs.Keys.{has}
use Rattle.rbac_terms.specs.Name.{Name, name_cmp, pair_cmp}
use Rattle.rbac_reasons.specs.declared.chain.Chain.{Chain}

-- each two neighbours of r and the names of the list are a declared pair, and q is the last
abbrev pub IsPath : List (Name × Name) → Name → List Name → Name → Type 0
IsPath declared r [] q = r ≡ q
IsPath declared r (p ∷ rest) q = IsTrue (has pair_cmp (r, p) declared) × IsPath declared p rest q

-- the chain leads from one of the names to this one
pub record LeadsFrom (declared : List (Name × Name)) (starts : List Name) (last : Name) (chain : Chain) : Type 0 where
  pub first : IsTrue (has name_cmp chain.first starts)
  pub path : IsPath declared chain.first chain.rest.items chain.last
  pub last_is : chain.last ≡ last

-- the chain leads from one of some names to one of others
pub record LeadsTo (declared : List (Name × Name)) (starts goals : List Name) (chain : Chain) : Type 0 where
  pub first : IsTrue (has name_cmp chain.first starts)
  pub path : IsPath declared chain.first chain.rest.items chain.last
  pub last : IsTrue (has name_cmp chain.last goals)

-- no chain leads from one of some names to one of others
abbrev pub NoneLeads : List (Name × Name) → List Name → List Name → Type 0
NoneLeads declared starts goals = (r : Name) (rest : List Name) (q : Name) → IsTrue (has name_cmp r starts) → IsPath declared r rest q → has name_cmp q goals ≡ false

-- a chain leads to the name from one of some names
abbrev pub Reaches : List (Name × Name) → List Name → Name → Type 0
Reaches declared starts q = (r : Name) × (rest : List Name) × IsTrue (has name_cmp r starts) × IsPath declared r rest q

-- these are the names to which one leads
abbrev pub AreReached : List (Name × Name) → List Name → List Name → Type 0
AreReached declared starts names = (q : Name) → IsTrue (has name_cmp q names) ↔ Reaches declared starts q
