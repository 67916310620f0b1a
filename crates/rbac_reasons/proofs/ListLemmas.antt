-- What is reached from a role alone, down the declared pairs and up them, and what is granted to it.
use Rattle.std.proofs.Common.{◌≡◌, true, false, cond, ◌||◌, List, [], ◌∷◌, map, refl, sym, arith, ◌∙◌}
use Rattle.std.specs.List.Sorted.{IsStrictlySortedBy}
use Rattle.std.proofs.lemmas.List.Sorted.{IsPermutation-refl}
use Rattle.sorted_keys.specs.Keys.{has, repeats}
use Rattle.sorted_keys.proofs.Gathered.{unrepeated_if_sorted}
use Rattle.sorted_keys.proofs.Ties.{ties_itself, ties-pair, same_bits}
use Rattle.rbac_terms.specs.Name.{Name, name_cmp, pair_cmp}
use Rattle.rbac_terms.specs.Inheritance.{IsChain, Inherits, inherits, juniors, seniors}
use Rattle.rbac_terms.proofs.NameLemmas.{names_total, pairs_total}
use Rattle.rbac_rules.proofs.InheritanceLemmas.{chain_role, chain_end, joined, inherits_iff}
use Rattle.rbac_reasons.specs.Lists.{turned}
use Rattle.rbac_reasons.specs.Path.{IsPath, AreReached}
use Rattle.rbac_reasons.proofs.MemberLemmas.{kept_whole}
use Rattle.rbac_reasons.proofs.WalkLemmas.{one_name, path_of_chain, chain_of_path}

-- both names of each pair are roles
abbrev pub AreAmong : List Name → List (Name × Name) → Type 0
AreAmong roles pairs = (a d : Name) → has pair_cmp (a, d) pairs ≡ true → (has name_cmp a roles ≡ true) × (has name_cmp d roles ≡ true)

-- each pair turned round is among the others
abbrev pub AreTurned : List (Name × Name) → List (Name × Name) → Type 0
AreTurned pairs others = (pair : Name × Name) → has pair_cmp pair others ≡ has pair_cmp (turned pair) pairs

-- ---- Down the declared pairs

-- what a walk from the role begins with: the role, where it is one
abbrev pub alone : List Name → Name → List Name
alone roles role = cond (has name_cmp role roles) (role ∷ []) []

module _ (roles : List Name) (declared : List (Name × Name)) (ranges : AreAmong roles declared) (role : Name) where
  -- what is reached from there is what the role inherits
  pub reached_is : (names : List Name) → AreReached declared (alone roles role) names → (q : Name) → has name_cmp q names ≡ inherits roles declared role q
  reached_is names reached q = same_bits _ _ there back
    where
      there : has name_cmp q names ≡ true → inherits roles declared role q ≡ true
      there m =
          let from = (reached q).0 m in
          let path : IsPath declared role from.1 q = grind (arith, from.2, from.3, one_name from.0 role) in
          (inherits_iff roles declared role q).1 (from.1, chain_of_path roles declared ranges role from.1 q (grind (arith, from.2)) path)

      back : inherits roles declared role q ≡ true → has name_cmp q names ≡ true
      back e =
          let why = (inherits_iff roles declared role q).0 e in
          let is_role = chain_role roles declared role why.0 q why.1 in
          (reached q).1 (role, why.0, grind (arith, is_role, ties_itself names_total role), path_of_chain roles declared role why.0 q why.1)

  pub juniors_are : (names : List Name) → IsStrictlySortedBy name_cmp roles → IsStrictlySortedBy name_cmp names → AreReached declared (alone roles role) names
      → names ≡ juniors roles declared role
  unfolding inherits
  juniors_are names sorted_roles sorted reached =
      kept_whole (inherits roles declared role) roles names sorted_roles sorted (λ q. grind (arith, reached_is names reached q))

-- ---- Up the declared pairs

pub has_turned : (pair : Name × Name) (pairs : List (Name × Name)) → has pair_cmp (turned pair) (map turned pairs) ≡ has pair_cmp pair pairs
has_turned pair [] = refl
has_turned pair (x ∷ xs) = grind (arith, ties-pair name_cmp name_cmp (turned pair) (turned x), ties-pair name_cmp name_cmp pair x, has_turned pair xs)

pub repeats_turned : (pairs : List (Name × Name)) → repeats pair_cmp (map turned pairs) ≡ repeats pair_cmp pairs
repeats_turned [] = refl
repeats_turned (x ∷ xs) = λ i. has_turned x xs i || repeats_turned xs i

-- no pair stands twice among those of a set, turned round
pub none_twice : (pairs : List (Name × Name)) → IsStrictlySortedBy pair_cmp pairs → repeats pair_cmp (map turned pairs) ≡ false
none_twice pairs sorted = repeats_turned pairs ∙ unrepeated_if_sorted pairs_total pairs pairs (IsPermutation-refl pairs) sorted

-- a chain over pairs turned round is one over the pairs, the other way
chain_back : (roles : List Name) (pairs others : List (Name × Name)) → AreTurned pairs others
    → (r : Name) (rest : List Name) (q : Name) → IsChain roles others r rest q → Inherits roles pairs q r
chain_back roles pairs others are r [] q c = ([], (chain_end roles others r [] q c, sym c.1))
chain_back roles pairs others are r (p ∷ rest) q c =
    let last : IsChain roles pairs p (r ∷ []) r = (chain_role roles others p rest q c.2, sym (are (r, p)) ∙ c.1, (c.0, refl)) in
    joined roles pairs q p r (chain_back roles pairs others are p rest q c.2) (r ∷ [], last)

module _ (roles : List Name) (declared others : List (Name × Name)) (ranges : AreAmong roles declared) (are : AreTurned declared others) (role : Name) where
  turned_inherits : (q : Name) → inherits roles others role q ≡ inherits roles declared q role
  turned_inherits q = same_bits _ _
      (λ e.
      let why = (inherits_iff roles others role q).0 e in
      (inherits_iff roles declared q role).1 (chain_back roles declared others are role why.0 q why.1))
      (λ e.
      let why = (inherits_iff roles declared q role).0 e in
      (inherits_iff roles others role q).1 (chain_back roles others declared (λ pair. sym (are (turned pair))) q why.0 role why.1))

  pub seniors_are : (names : List Name) → IsStrictlySortedBy name_cmp roles → IsStrictlySortedBy name_cmp names → AreReached others (alone roles role) names
      → names ≡ seniors roles declared role
  unfolding inherits
  seniors_are names sorted_roles sorted reached =
      let ends : AreAmong roles others = λ a d m. let both = ranges d a (sym (are (a, d)) ∙ m) in (both.1, both.0) in
      kept_whole (λ r. inherits roles declared r role) roles names sorted_roles sorted
      (λ q. grind (arith, reached_is roles others ends role names reached q, turned_inherits q))
