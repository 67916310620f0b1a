-- A role that is taken out of numbered roles: the last role gets its number.
use Rattle.std.proofs.Common.{ℕ, zero, suc, ◌≡◌, ◌≢◌, ◌<◌, ◌+◌, ◌-◌, Bool, true, false, not, cond, nat_eq, List, [], ◌∷◌, length, swap_remove, slice_set, slice_index_or, get_or, filter, refl, sym, ap, ◌∙◌, subst, ⊎_elim, arith}
use Rattle.std.specs.Ordering.{eq_by_cmp}
use Rattle.std.specs.declared.cmp.Ordering.{Ordering}
use Rattle.std.specs.Cmp.{IsTotalOrder}
use Rattle.std.proofs.lemmas.Bool.{and_parts, and_from, or_left, or_right, both_ways, not-true}
use Rattle.std.proofs.lemmas.Bool.Decides.{eqb_tells}
use Rattle.std.proofs.lemmas.List.{length-set, length-take-le, get_or-take, get_or-set_same, get_or-set_other}
use Rattle.std.proofs.lemmas.List.Kept.{IsStrictlySortedBy-filter}
use Rattle.sorted_keys.specs.Keys.{has, without}
use Rattle.sorted_keys.proofs.Gathered.{sorted_set_of}
use Rattle.sorted_keys.proofs.Members.{has-without, same_keys}
use Rattle.rbac_terms.specs.Name.{Name, name_cmp}
use Rattle.rbac_terms.specs.Inheritance.{inherits}
use Rattle.sorted_keys.proofs.Ties.{one_key, same_bits, ties_itself}
use Rattle.rbac_terms.proofs.NameLemmas.{names_total, names_exact}
use Rattle.bit_rows.specs.Bits.{Rows, count, moved, related}
use Rattle.rbac_hierarchy.specs.Numbers.{role_at, roles_of, AreNumbered, IsExact}
use Rattle.rbac_hierarchy.specs.Rows.{RangesOver}
use Rattle.rbac_hierarchy.proofs.ExactLemmas.{fails}
use Rattle.rbac_hierarchy.proofs.JuniorLemmas.{has_juniors, same_juniors}
use Rattle.rbac_hierarchy.proofs.NumberLemmas.{has_role, is_name, is_role, number_in}

-- what passes for each key that is there is kept whole
pub keeps_all : {K : Type 0} {R : K → K → Ordering} → IsTotalOrder R → (p : K → Bool) (xs : List K) → ((k : K) → has R k xs ≡ true → p k ≡ true) → filter p xs ≡ xs
keeps_all total p [] passes = refl
keeps_all total p (x ∷ xs) passes = rw (passes x (or_left _ _ (ties_itself total x))) (ap (λ rest. x ∷ rest) (keeps_all total p xs (λ k m. passes k (or_right _ _ m))))

module _ (names : List Name) (gap : ℕ) (d : Name) (in_gap : gap < length names) where
  abbrev last : ℕ
  last = length names - 1

  abbrev left : List Name
  left = swap_remove names gap d

  abbrev written : List Name
  written = slice_set names gap (slice_index_or names (length names - 1) d)

  pub size : length left ≡ length names - 1
  size = length-take-le last written (omega (arith, length-set names gap (slice_index_or names (length names - 1) d)))

  pub at_left : (i : ℕ) → i < length names - 1 → role_at left i ≡ role_at names (moved gap (length names - 1) i)
  at_left i lt = get_or-take last written i [] lt ∙ ⊎_elim
      (λ here. ap (λ n. role_at written n) here.1 ∙ get_or-set_same names gap (slice_index_or names last d) [] in_gap ∙ same_default ∙ sym (ap (λ b. role_at names (cond b last i)) here.0))
      (λ there. get_or-set_other names gap i (slice_index_or names last d) [] there.1 ∙ sym (ap (λ b. role_at names (cond b last i)) there.0))
      (eqb_tells i gap)
    where
      same_default : get_or names last d ≡ get_or names last []
      same_default = go names last (omega (arith, in_gap))
        where
          go : (xs : List Name) (n : ℕ) → n < length xs → get_or xs n d ≡ get_or xs n []
          go [] n lt = absurd (omega arith)
          go (x ∷ xs) zero lt = refl
          go (x ∷ xs) (suc n) lt = go xs n (omega arith)

  pub moved_below : (i : ℕ) → i < length names - 1 → moved gap (length names - 1) i < length names
  moved_below i lt = elim (nat_eq i gap) as (λ b. cond b last i < length names) [
    | true ↦ omega (arith, in_gap)
    | false ↦ omega (arith, lt)
  ]

  -- no number is moved into the gap
  moved_apart : (i : ℕ) → i < last → moved gap last i ≢ gap
  moved_apart i lt = ⊎_elim
      (λ here e. absurd (omega (arith, lt, here.1, sym (ap (λ b. cond b last i) here.0) ∙ e)))
      (λ there e. there.1 (sym (ap (λ b. cond b last i) there.0) ∙ e))
      (eqb_tells i gap)

  moved_one : (i j : ℕ) → i < last → j < last → moved gap last i ≡ moved gap last j → i ≡ j
  moved_one i j lt_i lt_j e = ⊎_elim
      (λ here_i. ⊎_elim
      (λ here_j. here_i.1 ∙ sym here_j.1)
      (λ there_j. absurd (omega (arith, lt_j, sym (ap (λ b. cond b last i) here_i.0) ∙ e ∙ ap (λ b. cond b last j) there_j.0)))
      (eqb_tells j gap))
      (λ there_i. ⊎_elim
      (λ here_j. absurd (omega (arith, lt_i, sym (ap (λ b. cond b last i) there_i.0) ∙ e ∙ ap (λ b. cond b last j) here_j.0)))
      (λ there_j. sym (ap (λ b. cond b last i) there_i.0) ∙ e ∙ ap (λ b. cond b last j) there_j.0)
      (eqb_tells j gap))
      (eqb_tells i gap)

  module _ (numbered : AreNumbered names) where
    abbrev role : Name
    role = role_at names gap

    numbered_left : AreNumbered left
    numbered_left i j lt_i lt_j e =
        let in_i = subst (λ n. i < n) size lt_i in
        let in_j = subst (λ n. j < n) size lt_j in
        moved_one i j in_i in_j (numbered _ _ (moved_below i in_i) (moved_below j in_j) (sym (at_left i in_i) ∙ e ∙ at_left j in_j))

    apart : (q : Name) → has name_cmp q left ≡ true → eq_by_cmp name_cmp q role ≡ false
    apart q m =
        let k = number_in left q m in
        let in_k = subst (λ n. k.0 < n) size k.1 in
        fails _ (λ e. moved_apart k.0 in_k (numbered _ _ (moved_below k.0 in_k) in_gap (sym (at_left k.0 in_k) ∙ k.2 ∙ one_key names_exact q role e)))

    was_there : (q : Name) → has name_cmp q left ≡ true → has name_cmp q names ≡ true
    was_there q m =
        let k = number_in left q m in
        let in_k = subst (λ n. k.0 < n) size k.1 in
        subst (λ r. has name_cmp r names ≡ true) (sym (at_left k.0 in_k) ∙ k.2) (is_name names _ (moved_below k.0 in_k))

    still_there : (q : Name) → eq_by_cmp name_cmp q role ≡ false → has name_cmp q names ≡ true → has name_cmp q left ≡ true
    still_there q other m =
        let k = number_in names q m in
        let not_gap : k.0 ≢ gap = λ e. both_ways _ other (subst (λ (r : Name). eq_by_cmp name_cmp r role ≡ true) (ap (λ n. role_at names n) (sym e) ∙ k.2) (ties_itself names_total role)) in
        ⊎_elim
        (λ here.
        let below : gap < last = omega (arith, not_gap, in_gap, here.1, k.1) in
        subst (λ r. has name_cmp r left ≡ true) (at_left gap below ∙ ap (λ b. role_at names (cond b last gap)) (refl_eq gap) ∙ ap (λ n. role_at names n) (sym here.1) ∙ k.2) (is_name left gap (subst (λ n. gap < n) (sym size) below)))
        (λ there.
        let below : k.0 < last = omega (arith, k.1, there.1) in
        subst (λ r. has name_cmp r left ≡ true) (at_left k.0 below ∙ ap (λ b. role_at names (cond b last k.0)) (other_eq k.0 gap not_gap) ∙ k.2) (is_name left k.0 (subst (λ n. k.0 < n) (sym size) below)))
        (eqb_tells k.0 last)
      where
        refl_eq : (n : ℕ) → nat_eq n n ≡ true
        refl_eq n = ⊎_elim (λ same. same.0) (λ other. absurd (other.1 refl)) (eqb_tells n n)

        other_eq : (n m : ℕ) → n ≢ m → nat_eq n m ≡ false
        other_eq n m apart = ⊎_elim (λ same. absurd (apart same.1)) (λ other. other.0) (eqb_tells n m)

    -- the roles are those but for that one
    pub roles_left : roles_of left ≡ without name_cmp role (roles_of names)
    roles_left = same_keys names_exact names_total _ _ (sorted_set_of names_total left) (IsStrictlySortedBy-filter name_cmp (λ q. not (eq_by_cmp name_cmp role q)) (roles_of names) (sorted_set_of names_total names))
        (λ q. has_role left q ∙ same_bits _ _
        (λ m. and_from _ _ (ap not (apart q m)) (has_role names q ∙ was_there q m))
        (λ both. let parts = and_parts _ _ both in still_there q (not-true _ parts.0) (sym (has_role names q) ∙ parts.1))
        ∙ sym (has-without names_total role (roles_of names) q))

-- what roles inherit, among those but for one that no pair names
module _ (names : List Name) (gap : ℕ) (role d : Name) (kept : List (Name × Name)) (old new : Rows) (exact : IsExact names kept old) (in_gap : gap < length names) (is : role_at names gap ≡ role)
    (ranges : RangesOver (without name_cmp role (roles_of names)) kept) (as_many : count new + 1 ≡ count old)
    (bits : (i j : ℕ) → i < count old - 1 → j < count old - 1 → related new i j ≡ related old (moved gap (count old - 1) i) (moved gap (count old - 1) j)) where
  abbrev after : List Name
  after = swap_remove names gap d

  roles_are : roles_of after ≡ without name_cmp role (roles_of names)
  roles_are = roles_left names gap d in_gap exact.numbered ∙ ap (λ r. without name_cmp r (roles_of names)) is

  narrow : RangesOver (roles_of after) kept
  narrow = subst (λ rs. RangesOver rs kept) (sym roles_are) ranges

  wider : (q : Name) → has name_cmp q (roles_of after) ≡ true → has name_cmp q (roles_of names) ≡ true
  wider q m = (and_parts _ _ (sym (has-without names_total role (roles_of names) q) ∙ sym (ap (has name_cmp q) roles_are) ∙ m)).1

  same_inherited : (r q : Name) → has name_cmp r (roles_of after) ≡ true → inherits (roles_of names) kept r q ≡ inherits (roles_of after) kept r q
  same_inherited r q m = sym (has_juniors (roles_of names) kept r q)
      ∙ ap (has name_cmp q) (sym (same_juniors (roles_of after) (roles_of names) kept narrow (sorted_set_of names_total after) (sorted_set_of names_total names) wider r m))
      ∙ has_juniors (roles_of after) kept r q

  sized : (i : ℕ) → i < length after → (i < length names - 1) × (i < count old - 1)
  sized i lt =
      let below = subst (λ n. i < n) (size names gap d in_gap) lt in
      (below, subst (λ n. i < n - 1) (sym exact.as_many) below)

  exact_left : IsExact after kept new
  exact_left = record {
    numbered = numbered_left names gap d in_gap exact.numbered;
    ranges = narrow;
    as_many = omega (arith, as_many, exact.as_many, size names gap d in_gap, in_gap);
    told = λ i j lt_i lt_j.
        let in_i = sized i lt_i in
        let in_j = sized j lt_j in
        bits i j in_i.1 in_j.1
        ∙ (λ k. related old (moved gap (exact.as_many k - 1) i) (moved gap (exact.as_many k - 1) j))
        ∙ exact.told _ _ (moved_below names gap d in_gap i in_i.0) (moved_below names gap d in_gap j in_j.0)
        ∙ (λ k. inherits (roles_of names) kept (sym (at_left names gap d in_gap i in_i.0) k) (sym (at_left names gap d in_gap j in_j.0) k))
        ∙ same_inherited (role_at after i) (role_at after j) (is_role after i lt_i);
  }

  pub exact_taken : (then : List Name) → then ≡ swap_remove names gap d → IsExact then kept new × (roles_of then ≡ without name_cmp role (roles_of names))
  exact_taken then same = (subst (λ ns. IsExact ns kept new) (sym same) exact_left, ap roles_of same ∙ roles_are)
