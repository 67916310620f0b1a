-- Declared pairs by their numbers.
use Rattle.std.proofs.Common.{ℕ, zero, suc, cond, ◌≡◌, ◌<◌, ◌≤◌, ◌+◌, Bool, true, false, not, ◌||◌, IsTrue, List, [], ◌∷◌, ◌++◌, length, length-append, get_or, filter, take, refl, sym, ap, ◌∙◌, subst, ⊎_elim, arith}
use Rattle.std.specs.Ordering.{eq_by_cmp}
use Rattle.std.proofs.Math.Seq.{get_or-append_seam}
use Rattle.std.proofs.lemmas.Bool.{and_parts, and_from, or_left, or_right, or_cases, both_ways, cases_lt}
use Rattle.std.proofs.lemmas.List.{append-nil, get_or_append_left, take_more}
use Rattle.std.proofs.lemmas.List.Elements.{filter-append}
use Rattle.sorted_keys.specs.Keys.{has, without}
use Rattle.sorted_keys.proofs.Members.{has-filter}
use Rattle.rbac_terms.specs.Name.{Name, name_cmp, pair_cmp}
use Rattle.rbac_terms.specs.Relations.{begins_with, ends_with, without_pairs_of}
use Rattle.rbac_terms.specs.Inheritance.{inherits}
use Rattle.sorted_keys.proofs.Ties.{one_key, ties_itself}
use Rattle.rbac_terms.proofs.NameLemmas.{names_total, names_exact, pairs_total, pairs_exact}
use Rattle.rbac_rules.proofs.InheritanceLemmas.{inherits_iff}
use Rattle.bit_rows.specs.Bits.{Rows, AreBelow, first_of, related, second_of}
use Rattle.rbac_hierarchy.specs.Numbers.{role_at, ArePairsAbove, AreNumbered}
use Rattle.rbac_hierarchy.specs.Renewal.{HasPairsOf}
use Rattle.rbac_hierarchy.specs.Rows.{RangesOver}
use Rattle.rbac_hierarchy.proofs.ExactLemmas.{fails}
use Rattle.rbac_hierarchy.proofs.GapLemmas.{keeps_all}
use Rattle.rbac_hierarchy.proofs.Kept.{any-append}

-- ---- The pairs of one ascendant

pub no_pairs_yet : (names : List Name) (ascendant : ℕ) (pairs : List (ℕ × ℕ)) → HasPairsOf names ascendant [] pairs pairs
no_pairs_yet names ascendant pairs = record {
  more = omega arith;
  kept = λ k lt. (refl, refl);
  new = λ k low high. absurd (omega (arith, low, high));
  all = λ a d m. absurd (both_ways _ refl m);
}

module _ (names : List Name) (ascendant : ℕ) (declared : List (Name × Name)) (before pairs : List (ℕ × ℕ)) (so_far : HasPairsOf names ascendant declared before pairs)
    (p : Name × Name) (n : ℕ) (in_n : n < length names) (is_n : role_at names n ≡ p.1) where
  abbrev more_pairs : List (ℕ × ℕ)
  more_pairs = pairs ++ (ascendant, n) ∷ []

  size : length more_pairs ≡ length pairs + 1
  size = length-append pairs ((ascendant, n) ∷ [])

  at_old : (k : ℕ) → k < length pairs → get_or more_pairs k (0, 0) ≡ get_or pairs k (0, 0)
  at_old k lt = get_or_append_left pairs ((ascendant, n) ∷ []) (0, 0) k lt

  at_new : get_or more_pairs (length pairs) (0, 0) ≡ (ascendant, n)
  at_new = get_or-append_seam pairs (ascendant, n) [] (0, 0)

  with_one : (q : Name × Name) → has pair_cmp q (declared ++ p ∷ []) ≡ (has pair_cmp q declared || (eq_by_cmp pair_cmp q p || false))
  with_one q = any-append (eq_by_cmp pair_cmp q) declared (p ∷ [])

  pub one_pair_more : HasPairsOf names ascendant (declared ++ p ∷ []) before more_pairs
  one_pair_more = record {
    more = omega (arith, so_far.more, size);
    kept = λ k lt.
        let in_old : k < length pairs = omega (arith, lt, so_far.more) in
        (ap (λ x. x.0) (at_old k in_old) ∙ (so_far.kept k lt).0, ap (λ x. x.1) (at_old k in_old) ∙ (so_far.kept k lt).1);
    new = λ k low high. ⊎_elim
        (λ in_old.
        let was = so_far.new k low in_old in
        let same = at_old k in_old in (
          ap (λ x. x.0) same ∙ was.0,
          subst (λ (x : ℕ × ℕ). x.1 < length names) (sym same) was.1,
          (was.2.0, with_one _ ∙ or_left _ _ (subst (λ (x : ℕ × ℕ). has pair_cmp (was.2.0, role_at names x.1) declared ≡ true) (sym same) was.2.1)),
        ))
        (λ past.
        let same : get_or more_pairs k (0, 0) ≡ (ascendant, n) = ap (λ m. get_or more_pairs m (0, 0)) (omega (arith, past, high, size)) ∙ at_new in (
          ap (λ x. x.0) same,
          subst (λ (x : ℕ × ℕ). x.1 < length names) (sym same) in_n,
          (p.0, with_one _ ∙ or_right _ _ (or_left _ _ (subst (λ (r : Name). eq_by_cmp pair_cmp (p.0, r) p ≡ true) (sym (ap (λ (x : ℕ × ℕ). role_at names x.1) same ∙ is_n)) (ties_itself pairs_total p)))),
        ))
        (cases_lt k (length pairs));
    all = λ a d m. ⊎_elim
        (λ there.
        let k = so_far.all a d there in
        let same = at_old k.0 k.1 in
        (k.0, omega (arith, k.1, size), ap (λ x. x.0) same ∙ k.2, subst (λ (x : ℕ × ℕ). x.1 < length names) (sym same) k.3, ap (λ (x : ℕ × ℕ). role_at names x.1) same ∙ k.4))
        (λ here.
        let same = one_key pairs_exact (a, d) p (⊎_elim (λ e. e) (λ none. absurd (both_ways _ refl none)) (or_cases _ _ here)) in
        (length pairs, omega (arith, size), ap (λ x. x.0) at_new, subst (λ (x : ℕ × ℕ). x.1 < length names) (sym at_new) in_n, ap (λ (x : ℕ × ℕ). role_at names x.1) at_new ∙ is_n ∙ sym (ap (λ q. q.1) same)))
        (or_cases _ _ (sym (with_one (a, d)) ∙ m));
  }

-- ---- What a loop over pairs has kept, up to one more

module _ (xs : List (Name × Name)) (i : ℕ) (x : Name × Name) (lt : i < length xs) (is : x ≡ get_or xs i x) where
  pub pair_among : has pair_cmp x xs ≡ true
  pair_among = subst (λ y. has pair_cmp y xs ≡ true) (sym is) (go xs i lt)
    where
      go : (ys : List (Name × Name)) (n : ℕ) → n < length ys → has pair_cmp (get_or ys n x) ys ≡ true
      go [] n lt = absurd (omega arith)
      go (y ∷ ys) zero lt = or_left _ _ (ties_itself pairs_total y)
      go (y ∷ ys) (suc n) lt = or_right _ _ (go ys n (omega arith))

module _ (test : Name × Name → Bool) (xs : List (Name × Name)) (i : ℕ) (x : Name × Name) (lt : i < length xs) (is : x ≡ get_or xs i x) where
  up_to_one_more : filter test (take (i + 1) xs) ≡ filter test (take i xs) ++ filter test (x ∷ [])
  up_to_one_more = ap (filter test) (take_more xs i x lt ∙ ap (λ y. take i xs ++ y ∷ []) (sym is)) ∙ filter-append test (take i xs) (x ∷ [])

  pub one_kept : test x ≡ true → filter test (take (i + 1) xs) ≡ filter test (take i xs) ++ x ∷ []
  one_kept passes = up_to_one_more ∙ ap (λ b. filter test (take i xs) ++ cond b (x ∷ []) []) passes

  pub none_kept : test x ≡ false → filter test (take (i + 1) xs) ≡ filter test (take i xs)
  none_kept out = up_to_one_more ∙ ap (λ b. filter test (take i xs) ++ cond b (x ∷ []) []) out ∙ append-nil (filter test (take i xs))

-- ---- The pairs above a role, ascendant after ascendant

pub record ArePairsUpTo (names : List Name) (kept : List (Name × Name)) (inherited : Rows) (above upto : ℕ) (pairs : List (ℕ × ℕ)) : Type 0 where
  pub below : AreBelow pairs (length names)
  pub declared : (k : ℕ) → k < length pairs → IsTrue (has pair_cmp (role_at names (first_of pairs k), role_at names (second_of pairs k)) kept)
  pub all : (i j : ℕ) → i < upto → j < length names → IsTrue (related inherited i above) → IsTrue (has pair_cmp (role_at names i, role_at names j) kept)
      → (k : ℕ) × (k < length pairs) × (first_of pairs k ≡ i) × (second_of pairs k ≡ j)

module _ (names : List Name) (kept : List (Name × Name)) (inherited : Rows) (above : ℕ) where
  pub none_above_yet : ArePairsUpTo names kept inherited above 0 []
  none_above_yet = record {
    below = λ k lt. absurd (omega arith);
    declared = λ k lt. absurd (omega arith);
    all = λ i j lt. absurd (omega arith);
  }

  pub all_above : (upto : ℕ) (pairs : List (ℕ × ℕ)) → length names ≤ upto → ArePairsUpTo names kept inherited above upto pairs → ArePairsAbove names kept inherited above pairs
  all_above upto pairs past so_far = record {
    below = so_far.below;
    declared = so_far.declared;
    all = λ i j lt. so_far.all i j (omega (arith, lt, past));
  }

  pub not_above : (upto : ℕ) (pairs : List (ℕ × ℕ)) → related inherited upto above ≡ false → ArePairsUpTo names kept inherited above upto pairs → ArePairsUpTo names kept inherited above (upto + 1) pairs
  not_above upto pairs none so_far = record {
    below = so_far.below;
    declared = so_far.declared;
    all = λ i j lt in_j is m. ⊎_elim
        (λ in_i. so_far.all i j in_i in_j is m)
        (λ past. absurd (both_ways _ none (subst (λ n. related inherited n above ≡ true) (omega (arith, lt, past)) is)))
        (cases_lt i upto);
  }

module _ (names : List Name) (declared : List (Name × Name)) (passes : Name × Name → Bool) (inherited : Rows) (above upto : ℕ) (in_upto : upto < length names) (numbered : AreNumbered names) (ascendant : Name) (is : role_at names upto ≡ ascendant) where
  abbrev kept : List (Name × Name)
  kept = filter passes declared

  abbrev of_ascendant : List (Name × Name)
  of_ascendant = filter passes (filter (λ p. eq_by_cmp name_cmp ascendant p.0) declared)

  same_pairs : (a d : Name) → has pair_cmp (a, d) of_ascendant ≡ true → (has pair_cmp (a, d) kept ≡ true) × (ascendant ≡ a)
  same_pairs a d m =
      let outer = and_parts _ _ (sym (has-filter pairs_exact passes (filter (λ p. eq_by_cmp name_cmp ascendant p.0) declared) (a, d)) ∙ m) in
      let inner = and_parts _ _ (sym (has-filter pairs_exact (λ p. eq_by_cmp name_cmp ascendant p.0) declared (a, d)) ∙ outer.1) in
      (has-filter pairs_exact passes declared (a, d) ∙ and_from _ _ outer.0 inner.1, one_key names_exact ascendant a inner.0)

  pairs_back : (d : Name) → has pair_cmp (ascendant, d) kept ≡ true → has pair_cmp (ascendant, d) of_ascendant ≡ true
  pairs_back d m =
      let parts = and_parts _ _ (sym (has-filter pairs_exact passes declared (ascendant, d)) ∙ m) in
      has-filter pairs_exact passes (filter (λ p. eq_by_cmp name_cmp ascendant p.0) declared) (ascendant, d)
      ∙ and_from _ _ parts.0 (has-filter pairs_exact (λ p. eq_by_cmp name_cmp ascendant p.0) declared (ascendant, d) ∙ and_from _ _ (ties_itself names_total ascendant) parts.1)

  pub more_above : (before pairs : List (ℕ × ℕ)) → HasPairsOf names upto of_ascendant before pairs → ArePairsUpTo names kept inherited above upto before → ArePairsUpTo names kept inherited above (upto + 1) pairs
  more_above before pairs had so_far = record {
    below = λ k lt. ⊎_elim
        (λ old. let same = had.kept k old in let was = so_far.below k old in (subst (λ n. n < length names) (sym same.0) was.0, subst (λ n. n < length names) (sym same.1) was.1))
        (λ past. let is_new = had.new k past lt in (subst (λ n. n < length names) (sym is_new.0) in_upto, is_new.1))
        (cases_lt k (length before));
    declared = λ k lt. ⊎_elim
        (λ old. let same = had.kept k old in (λ t. has pair_cmp (role_at names (same.0 t), role_at names (same.1 t)) kept) ∙ so_far.declared k old)
        (λ past.
        let is_new = had.new k past lt in
        let found = same_pairs is_new.2.0 (role_at names (second_of pairs k)) is_new.2.1 in
        ap (λ (a : Name). has pair_cmp (a, role_at names (second_of pairs k)) kept) (ap (role_at names) is_new.0 ∙ is ∙ found.1) ∙ found.0)
        (cases_lt k (length before));
    all = λ i j lt in_j inherits_above m. ⊎_elim
        (λ old_i.
        let k = so_far.all i j old_i in_j inherits_above m in
        let same = had.kept k.0 k.1 in
        (k.0, omega (arith, k.1, had.more), same.0 ∙ k.2, same.1 ∙ k.3))
        (λ past.
        let same : i ≡ upto = omega (arith, lt, past) in
        let k = had.all ascendant (role_at names j) (pairs_back (role_at names j) (ap (λ (a : Name). has pair_cmp (a, role_at names j) kept) (sym (ap (role_at names) same ∙ is)) ∙ m)) in
        (k.0, k.1, k.2 ∙ sym same, numbered _ _ k.3 in_j k.4))
        (cases_lt i upto);
  }

-- ---- The pairs that stay

pub fewer : (declared : List (Name × Name)) (passes : Name × Name → Bool) (p : Name × Name) → has pair_cmp p (filter passes declared) ≡ true → has pair_cmp p declared ≡ true
fewer declared passes p m = (and_parts _ _ (sym (has-filter pairs_exact passes declared p) ∙ m)).1

module _ (roles : List Name) (declared : List (Name × Name)) (ranges : RangesOver roles declared) where
  role_inherits : (r : Name) → has name_cmp r roles ≡ true → inherits roles declared r r ≡ true
  role_inherits r is = (inherits_iff roles declared r r).1 ([], (is, refl))

  over_pair : (a d : Name) → has pair_cmp (a, d) declared ≡ true → inherits roles declared a d ≡ true
  over_pair a d m = let both = ranges a d m in (inherits_iff roles declared a d).1 (d ∷ [], (both.0, m, (both.1, refl)))

  -- a pair that is taken back has an ascendant that inherits its own
  pub still_but_one : (a d : Name) (p : Name × Name) → inherits roles declared p.0 a ≡ false → has pair_cmp p declared ≡ true → has pair_cmp p (without pair_cmp (a, d) declared) ≡ true
  still_but_one a d p none m = has-filter pairs_exact (λ q. not (eq_by_cmp pair_cmp (a, d) q)) declared p ∙ and_from _ _ (ap not (fails _ (λ e.
      let same = one_key pairs_exact (a, d) p e in
      both_ways _ none (ap (λ (x : Name). inherits roles declared x a) (sym (ap (λ q. q.0) same)) ∙ role_inherits a (subst (λ (x : Name). has name_cmp x roles ≡ true) (sym (ap (λ q. q.0) same)) (ranges p.0 p.1 m).0))))) m

  -- an ascendant of a pair that names a role inherits that role
  pub still_of_others : (role : Name) (p : Name × Name) → inherits roles declared p.0 role ≡ false → has pair_cmp p declared ≡ true → has pair_cmp p (without_pairs_of role declared) ≡ true
  still_of_others role p none m = has-filter pairs_exact (λ q. not (begins_with role q || ends_with role q)) declared p ∙ and_from _ _ (ap not (fails _ (λ named. ⊎_elim
      (λ begins.
      let same = one_key names_exact role p.0 begins in
      both_ways _ none (ap (λ (x : Name). inherits roles declared p.0 x) same ∙ role_inherits p.0 (ranges p.0 p.1 m).0))
      (λ ends.
      let same = one_key names_exact role p.1 ends in
      both_ways _ none (ap (λ (x : Name). inherits roles declared p.0 x) same ∙ over_pair p.0 p.1 m))
      (or_cases _ _ named)))) m

  -- no pair names what is no role
  pub all_but_one_absent : (a d : Name) → has name_cmp a roles ≡ false → without pair_cmp (a, d) declared ≡ declared
  all_but_one_absent a d absent = keeps_all pairs_total (λ q. not (eq_by_cmp pair_cmp (a, d) q)) declared (λ p m. ap not (fails _ (λ e.
      let same = one_key pairs_exact (a, d) p e in
      both_ways _ absent (subst (λ (x : Name). has name_cmp x roles ≡ true) (sym (ap (λ q. q.0) same)) (ranges p.0 p.1 m).0))))

  pub all_without_absent : (role : Name) → has name_cmp role roles ≡ false → without_pairs_of role declared ≡ declared
  all_without_absent role absent = keeps_all pairs_total (λ q. not (begins_with role q || ends_with role q)) declared (λ p m. ap not (fails _ (λ named. ⊎_elim
      (λ begins. both_ways _ absent (subst (λ (x : Name). has name_cmp x roles ≡ true) (sym (one_key names_exact role p.0 begins)) (ranges p.0 p.1 m).0))
      (λ ends. both_ways _ absent (subst (λ (x : Name). has name_cmp x roles ≡ true) (sym (one_key names_exact role p.1 ends)) (ranges p.0 p.1 m).1))
      (or_cases _ _ named))))

  pub roles_without_absent : (role : Name) → has name_cmp role roles ≡ false → without name_cmp role roles ≡ roles
  roles_without_absent role absent = keeps_all names_total (λ q. not (eq_by_cmp name_cmp role q)) roles (λ q m. ap not (fails _ (λ e. both_ways _ absent (subst (λ (x : Name). has name_cmp x roles ≡ true) (sym (one_key names_exact role q e)) m))))
