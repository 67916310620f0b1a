-- What rows tell of roles, and what a change leaves of it.
use Rattle.std.proofs.Common.{ℕ, ◌≡◌, ◌+◌, ◌<◌, ◌≤◌, ◌==◌, Bool, true, false, ◌||◌, ◌&&◌, cond, nat_eq, nat_lt, if◌then◌else◌, List, [], ◌∷◌, ◌++◌, length, length-append, refl, sym, ap, ◌∙◌, subst, ⊎_elim, arith}
use Rattle.std.specs.Cmp.Lexicographic.{pointwise}
use Rattle.std.specs.List.{list_any}
use Rattle.std.specs.Ordering.{eq_by_cmp}
use Rattle.std.proofs.Math.Seq.{get_or-append_seam}
use Rattle.std.proofs.lemmas.Bool.{cases_lt, both_ways, or_left, or_right, or_cases, and_parts, and_from, eq-eqb, eqb-true, lt-ltb, le-ltb, false≢true}
use Rattle.std.proofs.lemmas.List.{get_or_append_left}
use Rattle.sorted_keys.specs.Keys.{has, with_key}
use Rattle.sorted_keys.proofs.Members.{has-with_key, same_keys}
use Rattle.sorted_keys.proofs.Gathered.{sorted_set_of}
use Rattle.sorted_keys.proofs.KeyPlace.{sorted_with_key}
use Rattle.rbac_terms.specs.Name.{Name, name_cmp, pair_cmp}
use Rattle.rbac_terms.specs.Inheritance.{IsChain, Inherits, inherits}
use Rattle.sorted_keys.proofs.Ties.{same_bits, ties_itself, one_key}
use Rattle.rbac_terms.proofs.NameLemmas.{names_total, names_exact, pairs_total}
use Rattle.rbac_rules.proofs.InheritanceLemmas.{chain_role, joined, inherits_iff, inherits_still, inherits_over}
use Rattle.bit_rows.specs.Bits.{Rows, AreJoined, count, first_of, related, second_of}
use Rattle.rbac_hierarchy.specs.Numbers.{role_at, roles_of, AreNumbered, ArePairsAbove, IsExact}
use Rattle.rbac_hierarchy.specs.Renewal.{IsRenewed, reset}
use Rattle.rbac_hierarchy.specs.Rows.{RangesOver}
use Rattle.rbac_hierarchy.proofs.JuniorLemmas.{between_roles}
use Rattle.rbac_hierarchy.proofs.Kept.{any-append}
use Rattle.rbac_hierarchy.proofs.NumberLemmas.{has_equal, has_role, is_role, number_in}
use Rattle.rbac_hierarchy.proofs.RangeLemmas.{ranges_wider}

pub fails : (b : Bool) → (b ≡ true → ⊥) → b ≡ false
fails true h = absurd (h refl)
fails false h = refl

pub by_none_inherited : (roles : List Name) (declared : List (Name × Name)) (r q : Name) → has name_cmp q roles ≡ false → inherits roles declared r q ≡ false
by_none_inherited roles declared r q none = fails _ (λ e. both_ways _ none (between_roles roles declared r q e).1)

-- no rows for no names
pub none_exact : (inherited : Rows) → count inherited ≡ 0 → IsExact [] [] inherited
none_exact inherited none = record {
  numbered = λ i j lt. absurd (omega arith);
  ranges = λ a b m. absurd (false≢true m);
  as_many = none;
  told = λ i j lt. absurd (omega arith);
}

module _ (names : List Name) (declared : List (Name × Name)) (inherited : Rows) (exact : IsExact names declared inherited) where
  -- the bit between the numbers of two roles
  pub told_by_bit : (a b : Name) (i j : ℕ) → i < length names → role_at names i ≡ a → j < length names → role_at names j ≡ b → related inherited i j ≡ inherits (roles_of names) declared a b
  told_by_bit a b i j below_i is_a below_j is_b = exact.told i j below_i below_j ∙ (λ k. inherits (roles_of names) declared (is_a k) (is_b k))

-- one more pair joins what its descendant inherits to what inherits its ascendant
pub inherits_joined : (roles : List Name) (declared : List (Name × Name)) (a d r q : Name) → has name_cmp a roles ≡ true → has name_cmp d roles ≡ true
    → inherits roles (with_key pair_cmp (a, d) declared) r q ≡ (inherits roles declared r q || (inherits roles declared r a && inherits roles declared d q))
inherits_joined roles declared a d r q is_a is_d = same_bits _ _ there back
  where
    more : List (Name × Name)
    more = with_key pair_cmp (a, d) declared

    there : inherits roles more r q ≡ true → (inherits roles declared r q || (inherits roles declared r a && inherits roles declared d q)) ≡ true
    there e = ⊎_elim
        (λ direct. or_left _ _ ((inherits_iff roles declared r q).1 direct))
        (λ over. or_right _ _ (and_from _ _ ((inherits_iff roles declared r a).1 over.0) ((inherits_iff roles declared d q).1 over.1)))
        (inherits_over roles declared a d r q ((inherits_iff roles more r q).0 e))

    still : (x y : Name) → inherits roles declared x y ≡ true → Inherits roles more x y
    still x y e = inherits_still roles roles declared more (λ z m. m) (λ p m. has-with_key pairs_total (a, d) declared p ∙ or_right _ _ m) x y ((inherits_iff roles declared x y).0 e)

    pair : has pair_cmp (a, d) more ≡ true
    pair = has-with_key pairs_total (a, d) declared (a, d) ∙ or_left _ _ (ties_itself pairs_total (a, d))

    back : (inherits roles declared r q || (inherits roles declared r a && inherits roles declared d q)) ≡ true → inherits roles more r q ≡ true
    back e = (inherits_iff roles more r q).1 (⊎_elim
        (λ direct. still r q direct)
        (λ over.
        let both = and_parts _ _ over in
        joined roles more r a q (still r a both.0) (joined roles more a d q (d ∷ [], (is_a, pair, (is_d, refl))) (still d q both.1)))
        (or_cases _ _ e))

-- after the row of the descendant is joined into those of the ascendant's seniors
pub exact_declared : (names : List Name) (declared more : List (Name × Name)) (old new : Rows) (above below : ℕ) (a d : Name) → IsExact names declared old
    → above < length names → role_at names above ≡ a → below < length names → role_at names below ≡ d
    → has name_cmp a (roles_of names) ≡ true → has name_cmp d (roles_of names) ≡ true → RangesOver (roles_of names) more
    → more ≡ with_key pair_cmp (a, d) declared → count new ≡ count old
    → ((i j : ℕ) → related new i j ≡ (related old i j || (related old i above && related old below j)))
    → IsExact names more new
exact_declared names declared more old new above below a d exact in_a is_a in_d is_d role_a role_d ranges is as_many join = record {
  numbered = exact.numbered;
  ranges = ranges;
  as_many = as_many ∙ exact.as_many;
  told = λ i j lt_i lt_j.
      let r = role_at names i in
      let q = role_at names j in
      let bit = told_by_bit names declared old exact in
      join i j
      ∙ (λ k. bit r q i j lt_i refl lt_j refl k || (bit r a i above lt_i refl in_a is_a k && bit d q below j in_d is_d lt_j refl k))
      ∙ sym (inherits_joined (roles_of names) declared a d r q role_a role_d)
      ∙ ap (λ pairs. inherits (roles_of names) pairs r q) (sym is);
}

-- rows that are sound, closed over the pairs, and have each number's own bit, tell what roles inherit
pub exact_from : (names : List Name) (declared : List (Name × Name)) (inherited : Rows) → AreNumbered names → RangesOver (roles_of names) declared → count inherited ≡ length names
    → ((i j : ℕ) → i < length names → j < length names → related inherited i j ≡ true → inherits (roles_of names) declared (role_at names i) (role_at names j) ≡ true)
    → ((i : ℕ) → i < length names → related inherited i i ≡ true)
    → ((i d j : ℕ) → i < length names → d < length names → j < length names → has pair_cmp (role_at names i, role_at names d) declared ≡ true → related inherited d j ≡ true → related inherited i j ≡ true)
    → IsExact names declared inherited
exact_from names declared inherited numbered ranges as_many sound own closed = record {
  numbered = numbered;
  ranges = ranges;
  as_many = as_many;
  told = λ i j lt_i lt_j. same_bits _ _ (sound i j lt_i lt_j) (λ e. let c = (inherits_iff (roles_of names) declared (role_at names i) (role_at names j)).0 e in go j lt_j i lt_i c.0 c.1);
}
  where
    go : (j : ℕ) → j < length names → (i : ℕ) → i < length names → (path : List Name) → IsChain (roles_of names) declared (role_at names i) path (role_at names j) → related inherited i j ≡ true
    go j lt_j i lt [] c = subst (λ m. related inherited i m ≡ true) (numbered i j lt lt_j c.1) (own i lt)
    go j lt_j i lt (p ∷ rest) c =
        let k = number_in names p (sym (has_role names p) ∙ chain_role (roles_of names) declared p rest (role_at names j) c.2) in
        closed i k.0 j lt k.1 lt_j
        (subst (λ z. has pair_cmp (role_at names i, z) declared ≡ true) (sym k.2) c.1)
        (go j lt_j k.0 k.1 rest (subst (λ z. IsChain (roles_of names) declared z rest (role_at names j)) (sym k.2) c.2))

-- fewer pairs, of which those are gone whose ascendant inherits a role: what does not inherit that role inherits what it did
pub kept_elsewhere : (roles : List Name) (declared kept : List (Name × Name)) (a : Name) → ((p : Name × Name) → inherits roles declared p.0 a ≡ false → has pair_cmp p declared ≡ true → has pair_cmp p kept ≡ true)
    → (r q : Name) → inherits roles declared r a ≡ false → inherits roles declared r q ≡ true → inherits roles kept r q ≡ true
kept_elsewhere roles declared kept a still r q none e =
    let i = (inherits_iff roles declared r q).0 e in (inherits_iff roles kept r q).1 (i.0, go r i.0 none i.1)
  where
    -- the descendant of one that does not inherit it does not either
    below : (x y : Name) → inherits roles declared x a ≡ false → has name_cmp x roles ≡ true → has name_cmp y roles ≡ true → has pair_cmp (x, y) declared ≡ true → inherits roles declared y a ≡ false
    below x y none is_x is_y pair = fails _ (λ e.
        let over = joined roles declared x y a (y ∷ [], (is_x, pair, (is_y, refl))) ((inherits_iff roles declared y a).0 e) in
        both_ways _ none ((inherits_iff roles declared x a).1 over))

    go : (x : Name) (path : List Name) → inherits roles declared x a ≡ false → IsChain roles declared x path q → IsChain roles kept x path q
    go x [] none c = c
    go x (y ∷ path) none c = (c.0, still (x, y) none c.1, go y path (below x y none c.0 (chain_role roles declared y path q c.2) c.1) c.2)

-- the rows of the seniors of a role made anew, over fewer pairs
module _ (names : List Name) (declared kept : List (Name × Name)) (old new : Rows) (above : ℕ) (a : Name) (pairs : List (ℕ × ℕ)) (exact : IsExact names declared old)
    (in_above : above < length names) (is_a : role_at names above ≡ a)
    (fewer : (p : Name × Name) → has pair_cmp p kept ≡ true → has pair_cmp p declared ≡ true)
    (still : (p : Name × Name) → inherits (roles_of names) declared p.0 a ≡ false → has pair_cmp p declared ≡ true → has pair_cmp p kept ≡ true)
    (above_all : ArePairsAbove names kept old above pairs) (renewed : IsRenewed old above pairs new) where
  abbrev roles : List Name
  roles = roles_of names

  -- what the rows may tell: of no number that no role has anything is asked
  may_tell : ℕ → ℕ → Bool
  may_tell i j = cond (nat_lt i (length names)) (cond (nat_lt j (length names)) (inherits roles kept (role_at names i) (role_at names j)) true) true

  inside : (i j : ℕ) → i < length names → j < length names → may_tell i j ≡ inherits roles kept (role_at names i) (role_at names j)
  unfolding may_tell
  inside i j lt_i lt_j = ap (λ b. cond b (cond (nat_lt j (length names)) (inherits roles kept (role_at names i) (role_at names j)) true) true) (lt-ltb i (length names) lt_i)
      ∙ ap (λ b. cond b (inherits roles kept (role_at names i) (role_at names j)) true) (lt-ltb j (length names) lt_j)

  same_true : (b : Bool) → cond b true true ≡ true
  same_true true = refl
  same_true false = refl

  outside_first : (i j : ℕ) → length names ≤ i → may_tell i j ≡ true
  unfolding may_tell
  outside_first i j le = ap (λ b. cond b (cond (nat_lt j (length names)) (inherits roles kept (role_at names i) (role_at names j)) true) true) (le-ltb i (length names) le)

  outside_second : (i j : ℕ) → length names ≤ j → may_tell i j ≡ true
  unfolding may_tell
  outside_second i j le = ap (λ b. cond (nat_lt i (length names)) (cond b (inherits roles kept (role_at names i) (role_at names j)) true) true) (le-ltb j (length names) le) ∙ same_true (nat_lt i (length names))

  -- a role inherits itself
  itself : (i : ℕ) → i < length names → inherits roles kept (role_at names i) (role_at names i) ≡ true
  itself i lt = (inherits_iff roles kept (role_at names i) (role_at names i)).1 ([], (is_role names i lt, refl))

  senior : (i : ℕ) → i < length names → related old i above ≡ inherits roles declared (role_at names i) a
  senior i lt = told_by_bit names declared old exact (role_at names i) a i above lt refl in_above is_a

  -- what was left of the rows is so
  left : (i j : ℕ) → reset old above i j ≡ true → may_tell i j ≡ true
  left i j e = ⊎_elim
      (λ lt_i. ⊎_elim
      (λ lt_j. inside i j lt_i lt_j ∙ (elim (related old i above) as (λ b. related old i above ≡ b → cond b (nat_eq j i) (related old i j) ≡ true → inherits roles kept (role_at names i) (role_at names j) ≡ true) [
        | true ↦ λ _ own. subst (λ m. inherits roles kept (role_at names i) (role_at names m) ≡ true) (sym (eqb-true j i own)) (itself i lt_i)
        | false ↦ λ none was. kept_elsewhere roles declared kept a still (role_at names i) (role_at names j) (sym (senior i lt_i) ∙ none) (sym (exact.told i j lt_i lt_j) ∙ was)
      ] refl e))
      (λ le. outside_second i j le)
      (cases_lt j (length names)))
      (λ le. outside_first i j le)
      (cases_lt i (length names))

  -- what a declared descendant inherits, its ascendant inherits
  step : (i d j : ℕ) → i < length names → d < length names → has pair_cmp (role_at names i, role_at names d) kept ≡ true → inherits roles kept (role_at names d) (role_at names j) ≡ true → inherits roles kept (role_at names i) (role_at names j) ≡ true
  step i d j lt_i lt_d pair e = (inherits_iff roles kept (role_at names i) (role_at names j)).1
      (joined roles kept (role_at names i) (role_at names d) (role_at names j) (role_at names d ∷ [], (is_role names i lt_i, pair, (is_role names d lt_d, refl))) ((inherits_iff roles kept (role_at names d) (role_at names j)).0 e))

  may_join : AreJoined may_tell pairs
  may_join k lt j told = ⊎_elim
      (λ lt_j.
      let both = above_all.below k lt in
      inside (first_of pairs k) j both.0 lt_j ∙ step (first_of pairs k) (second_of pairs k) j both.0 both.1 (above_all.declared k lt) (sym (inside (second_of pairs k) j both.1 lt_j) ∙ told))
      (λ le. outside_second (first_of pairs k) j le)
      (cases_lt j (length names))

  sound : (i j : ℕ) → i < length names → j < length names → related new i j ≡ true → inherits roles kept (role_at names i) (role_at names j) ≡ true
  sound i j lt_i lt_j e = sym (inside i j lt_i lt_j) ∙ renewed.least may_tell left may_join i j e

  own : (i : ℕ) → i < length names → related new i i ≡ true
  own i lt = renewed.still i i (elim (related old i above) as (λ b. cond b (nat_eq i i) (related old i i) ≡ true) [
    | true ↦ eq-eqb i i refl
    | false ↦ exact.told i i lt lt ∙ (inherits_iff roles declared (role_at names i) (role_at names i)).1 ([], (is_role names i lt, refl))
  ])

  closed : (i d j : ℕ) → i < length names → d < length names → j < length names → has pair_cmp (role_at names i, role_at names d) kept ≡ true → related new d j ≡ true → related new i j ≡ true
  closed i d j lt_i lt_d lt_j pair e = elim (related old i above) as (λ b. related old i above ≡ b → related new i j ≡ true) [
    | true ↦ λ is.
        let k = above_all.all i d lt_i lt_d is pair in
        subst (λ m. related new m j ≡ true) k.2 (renewed.joined k.0 k.1 j (subst (λ m. related new m j ≡ true) (sym k.3) e))
    | false ↦ λ none.
        let was = (inherits_iff roles declared (role_at names i) (role_at names j)).1
        (inherits_still roles roles kept declared (λ x m. m) fewer (role_at names i) (role_at names j) ((inherits_iff roles kept (role_at names i) (role_at names j)).0 (step i d j lt_i lt_d pair (sound d j lt_d lt_j e)))) in
        renewed.still i j (ap (λ b. cond b (nat_eq j i) (related old i j)) none ∙ exact.told i j lt_i lt_j ∙ was)
  ] refl

  pub exact_renewed : IsExact names kept new
  exact_renewed = exact_from names kept new exact.numbered (λ x y m. exact.ranges x y (fewer (x, y) m)) (renewed.as_many ∙ exact.as_many) sound own closed

-- to add a role that is there changes nothing
pub role_there : (names : List Name) (role : Name) → has name_cmp role (roles_of names) ≡ true → roles_of names ≡ with_key name_cmp role (roles_of names)
role_there names role there = same_keys names_exact names_total _ _ (sorted_set_of names_total names) (sorted_with_key names_total role (roles_of names) (sorted_set_of names_total names))
    (λ q. sym (has-with_key names_total role (roles_of names) q ∙ elim (eq_by_cmp name_cmp q role) as (λ b. eq_by_cmp name_cmp q role ≡ b → (b || has name_cmp q (roles_of names)) ≡ has name_cmp q (roles_of names)) [
      | true ↦ λ e. sym (ap (λ z. has name_cmp z (roles_of names)) (one_key names_exact q role e) ∙ there)
      | false ↦ λ e. refl
    ] refl))

-- `insert_full` of what is not there puts it last
pub names_then : (names new : List Name) (role : Name) → has name_cmp role names ≡ false → new ≡ (if list_any (pointwise ◌==◌ role) names then names else names ++ role ∷ []) → new ≡ names ++ role ∷ []
names_then names new role absent is = is ∙ ap (λ b. cond b names (names ++ role ∷ [])) (has_equal role names ∙ absent)

module _ (names : List Name) (role : Name) where
  turned : (x y : Bool) → (x || (y || false)) ≡ (y || x)
  turned true true = refl
  turned true false = refl
  turned false true = refl
  turned false false = refl

  -- the roles are those before and the new one
  pub roles_then : roles_of (names ++ role ∷ []) ≡ with_key name_cmp role (roles_of names)
  roles_then = same_keys names_exact names_total _ _ (sorted_set_of names_total (names ++ role ∷ [])) (sorted_with_key names_total role (roles_of names) (sorted_set_of names_total names))
      (λ q. has_role (names ++ role ∷ []) q ∙ any-append (eq_by_cmp name_cmp q) names (role ∷ []) ∙ turned (has name_cmp q names) (eq_by_cmp name_cmp q role)
      ∙ ap (λ b. eq_by_cmp name_cmp q role || b) (sym (has_role names q)) ∙ sym (has-with_key names_total role (roles_of names) q))

  module _ (declared : List (Name × Name)) (old new : Rows) (exact : IsExact names declared old) (absent : has name_cmp role names ≡ false)
      (inside_only : (i j : ℕ) → related old i j ≡ true → (i < count old) × (j < count old)) (as_many : count new ≡ count old + 1) (bits : (i j : ℕ) → related new i j ≡ (related old i j || (nat_eq i (count old) && nat_eq j (count old)))) where
    abbrev more : List Name
    more = names ++ role ∷ []

    abbrev roles_before : List Name
    roles_before = roles_of names

    unknown : has name_cmp role roles_before ≡ false
    unknown = has_role names role ∙ absent

    size : length more ≡ length names + 1
    size = length-append names (role ∷ [])

    at_old : (i : ℕ) → i < length names → role_at more i ≡ role_at names i
    at_old i lt = get_or_append_left names (role ∷ []) [] i lt

    at_new : role_at more (length names) ≡ role
    at_new = get_or-append_seam names role [] []

    last : (i : ℕ) → i < length more → length names ≤ i → i ≡ length names
    last i lt past = omega (arith, size)

    wider : (x : Name) → has name_cmp x roles_before ≡ true → has name_cmp x (roles_of more) ≡ true
    wider x m = ap (has name_cmp x) roles_then ∙ has-with_key names_total role roles_before x ∙ or_right _ _ m

    -- no number before is the new role's
    apart_from : (j : ℕ) → j < length names → role ≡ role_at names j → ⊥
    apart_from j lt e = both_ways _ unknown (subst (λ z. has name_cmp z roles_before ≡ true) (sym e) (is_role names j lt))

    distinct : AreNumbered more
    distinct i j lt_i lt_j e = ⊎_elim
        (λ in_i. ⊎_elim
        (λ in_j. exact.numbered i j in_i in_j (sym (at_old i in_i) ∙ e ∙ at_old j in_j))
        (λ past_j. absurd (apart_from i in_i (sym (ap (role_at more) (last j lt_j past_j) ∙ at_new) ∙ sym e ∙ at_old i in_i)))
        (cases_lt j (length names)))
        (λ past_i. ⊎_elim
        (λ in_j. absurd (apart_from j in_j (sym (ap (role_at more) (last i lt_i past_i) ∙ at_new) ∙ e ∙ at_old j in_j)))
        (λ past_j. last i lt_i past_i ∙ sym (last j lt_j past_j))
        (cases_lt j (length names)))
        (cases_lt i (length names))

    -- a number that is related was one before
    before : (i j : ℕ) → related old i j ≡ true → (i < length names) × (j < length names)
    before i j e = let both = inside_only i j e in (subst (λ n. i < n) exact.as_many both.0, subst (λ n. j < n) exact.as_many both.1)

    -- a number of a role that was there is one before
    old_number : (i : ℕ) → i < length more → has name_cmp (role_at more i) roles_before ≡ true → i < length names
    old_number i lt m = ⊎_elim (λ in_i. in_i) (λ past. absurd (both_ways _ unknown (subst (λ z. has name_cmp z roles_before ≡ true) (ap (role_at more) (last i lt past) ∙ at_new) m))) (cases_lt i (length names))

    more_inherit : (i j : ℕ) → i < length names → j < length names → related old i j ≡ true → inherits (roles_of more) declared (role_at more i) (role_at more j) ≡ true
    more_inherit i j in_i in_j e =
        let was = (inherits_iff roles_before declared (role_at names i) (role_at names j)).0 (sym (exact.told i j in_i in_j) ∙ e) in
        (λ k. inherits (roles_of more) declared (at_old i in_i k) (at_old j in_j k))
        ∙ (inherits_iff (roles_of more) declared (role_at names i) (role_at names j)).1 (inherits_still roles_before (roles_of more) declared declared wider (λ p m. m) (role_at names i) (role_at names j) was)

    itself_inherits : (i : ℕ) → i < length more → inherits (roles_of more) declared (role_at more i) (role_at more i) ≡ true
    itself_inherits i lt = (inherits_iff (roles_of more) declared (role_at more i) (role_at more i)).1 ([], (is_role more i lt, refl))

    sound_more : (i j : ℕ) → i < length more → j < length more → related new i j ≡ true → inherits (roles_of more) declared (role_at more i) (role_at more j) ≡ true
    sound_more i j lt_i lt_j e = ⊎_elim
        (λ was. let both = before i j was in more_inherit i j both.0 both.1 was)
        (λ own.
        let both = and_parts _ _ own in
        let same : i ≡ j = eqb-true i (count old) both.0 ∙ sym (eqb-true j (count old) both.1) in
        subst (λ m. inherits (roles_of more) declared (role_at more i) (role_at more m) ≡ true) same (itself_inherits i lt_i))
        (or_cases _ _ (sym (bits i j) ∙ e))

    own_more : (i : ℕ) → i < length more → related new i i ≡ true
    own_more i lt = bits i i ∙ ⊎_elim
        (λ in_i. or_left _ _ (exact.told i i in_i in_i ∙ (inherits_iff roles_before declared (role_at names i) (role_at names i)).1 ([], (is_role names i in_i, refl))))
        (λ past. let here = eq-eqb i (count old) (last i lt past ∙ sym exact.as_many) in or_right _ _ (and_from _ _ here here))
        (cases_lt i (length names))

    closed_more : (i d j : ℕ) → i < length more → d < length more → j < length more → has pair_cmp (role_at more i, role_at more d) declared ≡ true → related new d j ≡ true → related new i j ≡ true
    closed_more i d j lt_i lt_d lt_j pair e =
        let ranged = exact.ranges (role_at more i) (role_at more d) pair in
        let in_i = old_number i lt_i ranged.0 in
        let in_d = old_number d lt_d ranged.1 in
        ⊎_elim
        (λ was.
        let in_j = (before d j was).1 in
        let under = (inherits_iff roles_before declared (role_at names d) (role_at names j)).0 (sym (exact.told d j in_d in_j) ∙ was) in
        let pair_before = (λ k. has pair_cmp (sym (at_old i in_i) k, sym (at_old d in_d) k) declared) ∙ pair in
        let over = joined roles_before declared (role_at names i) (role_at names d) (role_at names j) (role_at names d ∷ [], (is_role names i in_i, pair_before, (is_role names d in_d, refl))) under in
        bits i j ∙ or_left _ _ (exact.told i j in_i in_j ∙ (inherits_iff roles_before declared (role_at names i) (role_at names j)).1 over))
        (λ own. absurd (at_end d in_d (eqb-true d (count old) (and_parts _ _ own).0 ∙ exact.as_many)))
        (or_cases _ _ (sym (bits d j) ∙ e))
      where
        at_end : (d : ℕ) → d < length names → d ≡ length names → ⊥
        at_end d lt e = omega arith

    pub exact_added : IsExact more declared new
    exact_added = exact_from more declared new distinct (ranges_wider roles_before (roles_of more) declared wider exact.ranges) (as_many ∙ ap (λ n. n + 1) exact.as_many ∙ sym size) sound_more own_more closed_more

-- rows that tell the same
pub exact_same : (names : List Name) (declared : List (Name × Name)) (old new : Rows) → IsExact names declared old → count new ≡ count old → ((i j : ℕ) → related new i j ≡ related old i j) → IsExact names declared new
exact_same names declared old new exact as_many same = record {
  numbered = exact.numbered;
  ranges = exact.ranges;
  as_many = as_many ∙ exact.as_many;
  told = λ i j lt_i lt_j. same i j ∙ exact.told i j lt_i lt_j;
}
