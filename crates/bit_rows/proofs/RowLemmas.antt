-- Rows that are written one after the other.
use Rattle.std.proofs.Common.{ℕ, zero, suc, ◌≡◌, ◌+◌, ◌<◌, ◌≤◌, ◌*◌, ◌-◌, Bool, true, false, ◌||◌, ◌&&◌, cond, nat_eq, nat_lt, List, [], ◌∷◌, ◌++◌, drop, take, length, length-append, get_or, slice_set, refl, sym, ap, ◌∙◌, subst, ⊎_elim, IsTrue, arith}
use Rattle.std.proofs.Math.Seq.{take-append_seam, get_or-append_seam}
use Rattle.std.proofs.lemmas.Bool.{lt-ltb, le-ltb, false≢true, cases_lt, both_ways, or_left, or_cases, ne_eqb}
use Rattle.std.proofs.lemmas.Bool.Decides.{eqb_tells}
use Rattle.std.proofs.lemmas.List.{get_or-set_other, length-set, get_or_append_left}
use Rattle.std.proofs.lemmas.Grind.{get_or-set_at}
use Rattle.bit_rows.specs.Bits.{has_bit, bit, AreWide, AreBelow, AreJoined, IsRelation, moved, first_of, second_of}
use Rattle.bit_rows.specs.Room.{unset, unset_of_all, ArePreserved, AreWidened}
use Rattle.bit_rows.proofs.BitLemmas.{past_end, no_words, has_bit-past}

-- what is written in the whole of a vector is all of it
pub whole : (len : ℕ) (new old : List (List ℕ)) → length new ≡ length old → length old ≡ len → take len (new ++ drop (length new) old) ≡ new
whole len new old e f = ap (λ n. take n (new ++ drop (length new) old)) (sym f ∙ sym e) ∙ take-append_seam new (drop (length new) old)

-- a row that none has has no bit
pub no_row : (rows : List (List ℕ)) (i j : ℕ) → length rows ≤ i → bit rows i j ≡ false
no_row rows i j le = ap (λ row. has_bit row j) (past_end rows i [] le) ∙ no_words j

pub no_rows : IsRelation []
no_rows = record { wide = λ i lt. absurd (omega arith); outside = λ i j le. no_row [] i j (omega arith) }

-- only numbers are related
pub only_numbers : (rows : List (List ℕ)) → IsRelation rows → (i j : ℕ) → bit rows i j ≡ true → (i < length rows) × (j < length rows)
only_numbers rows is i j set = (
  ⊎_elim (λ lt. lt) (λ le. absurd (both_ways _ (no_row rows i j le) set)) (cases_lt i (length rows)),
  ⊎_elim (λ lt. lt) (λ le. absurd (both_ways _ (is.outside i j le) set)) (cases_lt j (length rows)),
)

pub preserved : (rows : List (List ℕ)) → ArePreserved rows rows
preserved rows = record { rows = refl; words = λ i. refl }

pub preserved_twice : (old mid new : List (List ℕ)) → ArePreserved old mid → ArePreserved mid new → ArePreserved old new
preserved_twice old mid new p q = record { rows = q.rows ∙ p.rows; words = λ i. q.words i ∙ p.words i }

-- a row is written that is as wide
pub preserved-set : (rows : List (List ℕ)) (at : ℕ) (row : List ℕ) → at < length rows → length row ≡ length (get_or rows at []) → ArePreserved rows (slice_set rows at row)
preserved-set rows at row lt same = record {
  rows = length-set rows at row;
  words = λ i. ⊎_elim
      (λ here. ap length (get_or-set_at rows at i row [] here.1 lt) ∙ same ∙ ap (λ n. length (get_or rows n [])) (sym here.1))
      (λ there. ap length (get_or-set_other rows at i row [] there.1))
      (eqb_tells i at);
}

pub wide_still : (old new : List (List ℕ)) (n : ℕ) → ArePreserved old new → AreWide old n → AreWide new n
wide_still old new n kept wide = λ i lt. subst (λ m. n ≤ 64 * m) (sym (kept.words i)) (wide i (subst (λ m. i < m) kept.rows lt))

-- rows that are widened
pub widened : (rows : List (List ℕ)) → AreWidened rows rows
widened rows = record { rows = refl; words = λ i. omega arith }

pub wide_widened : (old new : List (List ℕ)) (n : ℕ) → AreWidened old new → AreWide old n → AreWide new n
wide_widened old new n more wide = λ i lt. omega (arith, more.words i, wide i (subst (λ m. i < m) more.rows lt))

pub relation_widened : (old new : List (List ℕ)) → IsRelation old → AreWidened old new → ((i j : ℕ) → bit new i j ≡ bit old i j) → IsRelation new
relation_widened old new was more same = record {
  wide = subst (AreWide new) (sym more.rows) (wide_widened old new (length old) more was.wide);
  outside = λ i j le. same i j ∙ was.outside i j (subst (λ n. n ≤ j) more.rows le);
}

-- one row is widened
module _ (rows : List (List ℕ)) (at : ℕ) (row : List ℕ) (lt : at < length rows) where
  pub widened_more : (old : List (List ℕ)) → AreWidened old rows → length (get_or rows at []) ≤ length row → AreWidened old (slice_set rows at row)
  widened_more old so_far more = record {
    rows = length-set rows at row ∙ so_far.rows;
    words = λ i. ⊎_elim
        (λ here. omega (arith, so_far.words i, more, ap (λ n. length (get_or rows n [])) here.1, ap length (get_or-set_at rows at i row [] here.1 lt)))
        (λ there. omega (arith, so_far.words i, ap length (get_or-set_other rows at i row [] there.1)))
        (eqb_tells i at);
  }

  pub wide_more : (n : ℕ) → ((i : ℕ) → i < at → n ≤ length (get_or rows i [])) → n ≤ length row → (i : ℕ) → i < at + 1 → n ≤ length (get_or (slice_set rows at row) i [])
  wide_more n before here i in_front = ⊎_elim
      (λ same. subst (λ r. n ≤ length r) (sym (get_or-set_at rows at i row [] same.1 lt)) here)
      (λ other. subst (λ r. n ≤ length r) (sym (get_or-set_other rows at i row [] other.1)) (before i (omega (arith, other.1))))
      (eqb_tells i at)

  pub same_bits : ((j : ℕ) → has_bit row j ≡ has_bit (get_or rows at []) j) → (i j : ℕ) → bit (slice_set rows at row) i j ≡ bit rows i j
  same_bits same i j = ⊎_elim
      (λ here. ap (λ r. has_bit r j) (get_or-set_at rows at i row [] here.1 lt) ∙ same j ∙ ap (λ n. bit rows n j) (sym here.1))
      (λ there. ap (λ r. has_bit r j) (get_or-set_other rows at i row [] there.1))
      (eqb_tells i at)

-- a row more at the end
module _ (rows : List (List ℕ)) (row : List ℕ) (n : ℕ) where
  at_end : get_or (rows ++ row ∷ []) (length rows) [] ≡ row
  at_end = get_or-append_seam rows row [] []

  before_end : (i : ℕ) → i < length rows → get_or (rows ++ row ∷ []) i [] ≡ get_or rows i []
  before_end i lt = get_or_append_left rows (row ∷ []) [] i lt

  pub wide_with : AreWide rows n → n ≤ 64 * length row → AreWide (rows ++ row ∷ []) n
  wide_with wide own i lt = ⊎_elim
      (λ (before : i < length rows). subst (λ r. n ≤ 64 * length r) (sym (before_end i before)) (wide i before))
      (λ (past : length rows ≤ i). let last : i ≡ length rows = omega (arith, length-append rows (row ∷ []), lt, past) in subst (λ r. n ≤ 64 * length r) (sym (ap (λ k. get_or (rows ++ row ∷ []) k []) last ∙ at_end)) own)
      (cases_lt i (length rows))

  pub wide_without : AreWide (rows ++ row ∷ []) n → AreWide rows n
  wide_without wide i lt = subst (λ r. n ≤ 64 * length r) (before_end i lt) (wide i (omega (arith, length-append rows (row ∷ []))))

  pub wide_last : AreWide (rows ++ row ∷ []) n → n ≤ 64 * length row
  wide_last wide = subst (λ r. n ≤ 64 * length r) at_end (wide (length rows) (omega (arith, length-append rows (row ∷ []))))

-- the rows before a place are as they are to be, and the others as they were
pub record AreDone (Is : ℕ → List ℕ → Type 0) (old : List (List ℕ)) (at : ℕ) (new : List (List ℕ)) : Type 0 where
  pub preserved : ArePreserved old new
  pub done : (i : ℕ) → i < at → Is i (get_or new i [])
  pub rest : (i : ℕ) → at ≤ i → get_or new i [] ≡ get_or old i []

module _ (Is : ℕ → List ℕ → Type 0) (old : List (List ℕ)) where
  pub none_done : AreDone Is old 0 old
  none_done = record { preserved = preserved old; done = λ i lt. absurd (omega arith); rest = λ i le. refl }

  module _ (at : ℕ) (new : List (List ℕ)) (so_far : AreDone Is old at new) where
    -- the next row is as it is to be
    pub kept_row : Is at (get_or old at []) → AreDone Is old (at + 1) new
    kept_row is = record {
      preserved = so_far.preserved;
      done = λ i lt. ⊎_elim (λ here. subst (λ n. Is n (get_or new n [])) (sym here.1) (subst (Is at) (sym (so_far.rest at (omega arith))) is)) (λ there. so_far.done i (omega (arith, there.1))) (eqb_tells i at);
      rest = λ i le. so_far.rest i (omega arith);
    }

    -- the next row, and no other, becomes what it is to be
    pub changed_row : (then : List (List ℕ)) → ArePreserved new then → ((i : ℕ) → nat_eq i at ≡ false → get_or then i [] ≡ get_or new i []) → Is at (get_or then at []) → AreDone Is old (at + 1) then
    changed_row then kept others is = record {
      preserved = preserved_twice old new then so_far.preserved kept;
      done = λ i lt. ⊎_elim
          (λ here. subst (λ n. Is n (get_or then n [])) (sym here.1) is)
          (λ there. subst (Is i) (sym (others i there.0)) (so_far.done i (omega (arith, there.1))))
          (eqb_tells i at);
      rest = λ i le. ⊎_elim (λ here. absurd (omega (arith, here.1))) (λ there. others i there.0 ∙ so_far.rest i (omega arith)) (eqb_tells i at);
    }

    -- the next row is written
    pub wrote_row : (row : List ℕ) → at < length new → length row ≡ length (get_or new at []) → Is at row → AreDone Is old (at + 1) (slice_set new at row)
    wrote_row row lt same is = changed_row (slice_set new at row) (preserved-set new at row lt same)
        (λ i off. get_or-set_other new at i row [] (λ e. ⊎_elim (λ here. false≢true (sym off ∙ here.0)) (λ there. there.1 e) (eqb_tells i at)))
        (subst (Is at) (sym (get_or-set_at new at at row [] refl lt)) is)

-- one row written
pub unset-set_row : (rows : List (List ℕ)) (k : ℕ) (row : List ℕ) → k < length rows → unset_of_all (slice_set rows k row) + unset (get_or rows k []) ≡ unset_of_all rows + unset row
unset-set_row [] k row lt = absurd (omega arith)
unset-set_row (r ∷ rows) zero row lt = omega arith
unset-set_row (r ∷ rows) (suc k) row lt = omega (arith, unset-set_row rows k row (omega arith))

-- a row is lent, another is joined with it, and it is given back
module _ (old : List (List ℕ)) (above below : ℕ) (row : List ℕ) (in_above : above < length old) (in_below : below < length old) (apart : nat_eq above below ≡ false) where
  abbrev lent : List (List ℕ)
  lent = slice_set old below []

  abbrev joined : List (List ℕ)
  joined = slice_set lent above row

  abbrev given_back : List (List ℕ)
  given_back = slice_set joined below (get_or old below [])

  not_same : above ≡ below → ⊥
  not_same e = ⊎_elim (λ here. false≢true (sym apart ∙ here.0)) (λ there. there.1 e) (eqb_tells above below)

  pub at_above_lent : get_or lent above [] ≡ get_or old above []
  at_above_lent = get_or-set_other old below above [] [] not_same

  in_lent : above < length lent
  in_lent = subst (λ n. above < n) (sym (length-set old below [])) in_above

  in_joined : below < length joined
  in_joined = subst (λ n. below < n) (sym (length-set lent above row ∙ length-set old below [])) in_below

  pub at_above : get_or given_back above [] ≡ row
  at_above = get_or-set_other joined below above (get_or old below []) [] not_same ∙ get_or-set_at lent above above row [] refl in_lent

  pub elsewhere : (i : ℕ) → nat_eq i above ≡ false → get_or given_back i [] ≡ get_or old i []
  elsewhere i off = ⊎_elim
      (λ here. get_or-set_at joined below i (get_or old below []) [] here.1 in_joined ∙ ap (λ n. get_or old n []) (sym here.1))
      (λ there. get_or-set_other joined below i (get_or old below []) [] there.1
      ∙ get_or-set_other lent above i row [] (λ e. ⊎_elim (λ here. false≢true (sym off ∙ here.0)) (λ t. t.1 e) (eqb_tells i above))
      ∙ get_or-set_other old below i [] [] there.1)
      (eqb_tells i below)

  pub joined_lengths : length row ≡ length (get_or old above []) → ArePreserved old given_back
  joined_lengths as_wide = record {
    rows = length-set joined below (get_or old below []) ∙ length-set lent above row ∙ length-set old below [];
    words = λ i. ⊎_elim
        (λ here. ap (λ n. length (get_or given_back n [])) here.1 ∙ ap length at_above ∙ as_wide ∙ ap (λ n. length (get_or old n [])) (sym here.1))
        (λ there. ap length (elsewhere i there.0))
        (eqb_tells i above);
  }

  pub unset_joined : unset_of_all given_back + unset (get_or old above []) ≡ unset_of_all old + unset row
  unset_joined =
      let lending = unset-set_row old below [] in_below in
      let joining : unset_of_all joined + unset (get_or old above []) ≡ unset_of_all lent + unset row = ap (λ r. unset_of_all joined + unset r) (sym at_above_lent) ∙ unset-set_row lent above row in_lent in
      let back : unset_of_all given_back + unset [] ≡ unset_of_all joined + unset (get_or old below []) =
      ap (λ r. unset_of_all given_back + unset r) (sym (get_or-set_other lent above below row [] (λ e. not_same (sym e)) ∙ get_or-set_at old below below [] [] refl in_below)) ∙ unset-set_row joined below (get_or old below []) in_joined in
      omega (arith, lending, joining, back)

-- where rows are written, they are a relation if no bit past the last number came
pub relation_still : (old new : List (List ℕ)) → IsRelation old → ArePreserved old new → ((i j : ℕ) → i < length old → length old ≤ j → bit new i j ≡ false) → IsRelation new
relation_still old new was kept past = record {
  wide = λ i lt. subst (λ n. n ≤ 64 * length (get_or new i [])) (sym kept.rows) (subst (λ n. length old ≤ 64 * n) (sym (kept.words i)) (was.wide i (subst (λ n. i < n) kept.rows lt)));
  outside = λ i j le. ⊎_elim
      (λ (lt : i < length old). past i j lt (subst (λ n. n ≤ j) kept.rows le))
      (λ (beyond : length old ≤ i). no_row new i j (subst (λ n. n ≤ i) (sym kept.rows) beyond))
      (cases_lt i (length old));
}

fails : (b : Bool) → (b ≡ true → ⊥) → b ≡ false
fails true h = absurd (h refl)
fails false h = refl

-- a bit that is set lies within its row
in_room : (rows : List (List ℕ)) (i j : ℕ) → bit rows i j ≡ true → j < 64 * length (get_or rows i [])
in_room rows i j is = ⊎_elim
    (λ (lt : j < 64 * length (get_or rows i [])). lt)
    (λ (le : 64 * length (get_or rows i []) ≤ j). absurd (both_ways _ (has_bit-past (get_or rows i []) j (omega arith)) is))
    (cases_lt j (64 * length (get_or rows i [])))

-- what is related is a number
inside_only : (rows : List (List ℕ)) → IsRelation rows → (x y : ℕ) → bit rows x y ≡ true → nat_lt y (length rows) ≡ true
inside_only rows is x y set = ⊎_elim (λ lt. lt-ltb y (length rows) lt) (λ le. absurd (both_ways _ (is.outside x y le) set)) (cases_lt y (length rows))

-- one row is joined into another
module _ (now new : List (List ℕ)) (above below : ℕ) (kept : ArePreserved now new) (others : (i : ℕ) → nat_eq i above ≡ false → get_or new i [] ≡ get_or now i [])
    (joined : (j : ℕ) → j < 64 * length (get_or now above []) → bit new above j ≡ (bit now above j || bit now below j)) where
  pub pair_still : (i j : ℕ) → bit now i j ≡ true → bit new i j ≡ true
  pair_still i j is = ⊎_elim
      (λ here. ap (λ n. bit new n j) here.1 ∙ joined j (in_room now above j (was here.1)) ∙ or_left _ _ (was here.1))
      (λ there. ap (λ row. has_bit row j) (others i there.0) ∙ is)
      (eqb_tells i above)
    where
      was : i ≡ above → bit now above j ≡ true
      was e = ap (λ n. bit now n j) (sym e) ∙ is

  pub pair_from : (R : ℕ → ℕ → Bool) → ((i j : ℕ) → bit now i j ≡ true → R i j ≡ true) → ((j : ℕ) → R below j ≡ true → R above j ≡ true) → (i j : ℕ) → bit new i j ≡ true → R i j ≡ true
  pair_from R inside step i j is = ⊎_elim
      (λ here. ap (λ n. R n j) here.1 ∙ ⊎_elim (inside above j) (λ e. step j (inside below j e)) (or_cases _ _ (sym (joined j (within here.1)) ∙ ap (λ n. bit new n j) (sym here.1) ∙ is)))
      (λ there. inside i j (ap (λ row. has_bit row j) (sym (others i there.0)) ∙ is))
      (eqb_tells i above)
    where
      within : i ≡ above → j < 64 * length (get_or now above [])
      within e = subst (λ n. j < 64 * n) (kept.words above) (in_room new above j (ap (λ n. bit new n j) (sym e) ∙ is))

-- a row that is joined into another leaves a relation
pub relation_joined : (now new : List (List ℕ)) (above below : ℕ) → IsRelation now → ArePreserved now new → ((i : ℕ) → nat_eq i above ≡ false → get_or new i [] ≡ get_or now i [])
    → ((j : ℕ) → j < 64 * length (get_or now above []) → bit new above j ≡ (bit now above j || bit now below j)) → IsRelation new
relation_joined now new above below was kept others joined = relation_still now new was kept
    (λ i j lt le. fails (bit new i j) (λ e. both_ways _ (le-ltb j (length now) le) (pair_from now new above below kept others joined (λ x y. nat_lt y (length now)) (inside_only now was) (λ y t. t) i j e)))

-- what the rows before are related to, and what the pairs join to it, is no more than what a relation has
abbrev pub IsLeast : List (List ℕ) → List (ℕ × ℕ) → List (List ℕ) → Type 0
IsLeast old pairs new = (R : ℕ → ℕ → Bool) → ((i j : ℕ) → IsTrue (bit old i j) → IsTrue (R i j)) → AreJoined R pairs → (i j : ℕ) → IsTrue (bit new i j) → IsTrue (R i j)

pub relation_least : (old new : List (List ℕ)) (pairs : List (ℕ × ℕ)) → IsRelation old → ArePreserved old new → IsLeast old pairs new → IsRelation new
relation_least old new pairs was kept least = relation_still old new was kept
    (λ i j lt le. fails (bit new i j) (λ e. both_ways _ (le-ltb j (length old) le) (least (λ x y. nat_lt y (length old)) (inside_only old was) (λ k below y t. t) i j e)))

-- no row had a bit more by any of the pairs
pub all_joined : (rows : List (List ℕ)) (pairs : List (ℕ × ℕ)) → IsRelation rows → AreBelow pairs (length rows)
    → ((k : ℕ) → k < length pairs → (j : ℕ) → j < 64 * length (get_or rows (first_of pairs k) []) → IsTrue (bit rows (second_of pairs k) j) → IsTrue (bit rows (first_of pairs k) j))
    → AreJoined (bit rows) pairs
all_joined rows pairs is below joined k lt j set = ⊎_elim
    (λ (inside : j < length rows). joined k lt j (room (is.wide (first_of pairs k) (below k lt).0) inside) set)
    (λ outside. absurd (both_ways _ (is.outside (second_of pairs k) j outside) set))
    (cases_lt j (length rows))
  where
    room : {m : ℕ} → length rows ≤ m → j < length rows → j < m
    room le less = omega arith

-- after a row was joined into those that have a bit
pub related_joined : (old new : List (List ℕ)) (above below : ℕ) → IsRelation old → IsRelation new → ArePreserved old new
    → ((i j : ℕ) → i < length old → j < length old → bit new i j ≡ (bit old i j || (bit old i above && bit old below j)))
    → (i j : ℕ) → bit new i j ≡ (bit old i j || (bit old i above && bit old below j))
related_joined old new above below was is kept inside i j = ⊎_elim
    (λ (in_j : j < length old). ⊎_elim
    (λ (in_i : i < length old). inside i j in_i in_j)
    (λ (past : length old ≤ i). no_row new i j (subst (λ n. n ≤ i) (sym kept.rows) past) ∙ sym (λ k. no_row old i j past k || (no_row old i above past k && bit old below j)))
    (cases_lt i (length old)))
    (λ (past : length old ≤ j). is.outside i j (subst (λ n. n ≤ j) (sym kept.rows) past) ∙ none (bit old i above) ∙ sym (λ k. was.outside i j past k || (bit old i above && was.outside below j past k)))
    (cases_lt j (length old))
  where
    none : (b : Bool) → false ≡ (false || (b && false))
    none true = refl
    none false = refl

-- after rows were reset
module _ (old new : List (List ℕ)) (above : ℕ) (was : IsRelation old) (kept : ArePreserved old new)
    (alone : (i j : ℕ) → i < length old → bit new i j ≡ cond (bit old i above) (nat_eq j i) (bit old i j)) where
  pub relation_reset : IsRelation new
  relation_reset = relation_still old new was kept (λ i j lt le. alone i j lt ∙ (λ k. cond (bit old i above) (ne_eqb j i (λ e. absurd (omega (arith, e))) k) (was.outside i j le k)) ∙ same_cond (bit old i above))
    where
      same_cond : (b : Bool) → cond b false false ≡ false
      same_cond true = refl
      same_cond false = refl

  pub related_reset : (i j : ℕ) → bit new i j ≡ cond (bit old i above) (nat_eq j i) (bit old i j)
  related_reset i j = ⊎_elim
      (λ lt. alone i j lt)
      (λ (past : length old ≤ i). no_row new i j (subst (λ n. n ≤ i) (sym kept.rows) past) ∙ sym (λ k. cond (no_row old i above past k) (nat_eq j i) (no_row old i j past k)))
      (cases_lt i (length old))

-- after a row was added
module _ (old widened : List (List ℕ)) (row : List ℕ) (was : IsRelation old) (as_many : length widened ≡ length old) (wider : AreWide widened (length old + 1))
    (same : (i j : ℕ) → bit widened i j ≡ bit old i j) (room : length old < 64 * length row) (own : (j : ℕ) → has_bit row j ≡ nat_eq j (length old)) where
  abbrev more : List (List ℕ)
  more = widened ++ row ∷ []

  count_more : length more ≡ length old + 1
  count_more = length-append widened (row ∷ []) ∙ ap (λ n. n + 1) as_many

  at_old : (i : ℕ) → i < length old → get_or more i [] ≡ get_or widened i []
  at_old i lt = get_or_append_left widened (row ∷ []) [] i (subst (λ n. i < n) (sym as_many) lt)

  at_new : get_or more (length old) [] ≡ row
  at_new = ap (λ n. get_or more n []) (sym as_many) ∙ get_or-append_seam widened row [] []

  pub related_added : (i j : ℕ) → bit more i j ≡ (bit old i j || (nat_eq i (length old) && nat_eq j (length old)))
  related_added i j = ⊎_elim
      (λ (lt : i < length old). ap (λ r. has_bit r j) (at_old i lt) ∙ same i j ∙ or_none (bit old i j) (nat_eq j (length old)) ∙ sym (ap (λ b. bit old i j || (b && nat_eq j (length old))) (ne_eqb i (length old) (λ e. absurd (omega (arith, e))))))
      (λ (le : length old ≤ i). ⊎_elim
      (λ here. ap (λ n. bit more n j) here.1 ∙ ap (λ r. has_bit r j) at_new ∙ own j ∙ sym (λ k. no_row old i j le k || (here.0 k && nat_eq j (length old))))
      (λ there. no_row more i j (omega (arith, count_more, there.1)) ∙ sym (λ k. no_row old i j le k || (there.0 k && nat_eq j (length old))))
      (eqb_tells i (length old)))
      (cases_lt i (length old))
    where
      or_none : (a b : Bool) → a ≡ (a || (false && b))
      or_none true b = refl
      or_none false b = refl

  pub relation_added : IsRelation more
  relation_added = record {
    wide = λ i lt. ⊎_elim
        (λ (before : i < length old). subst (λ n. n ≤ 64 * length (get_or more i [])) (sym count_more) (subst (λ r. length old + 1 ≤ 64 * length r) (sym (at_old i before)) (wider i (subst (λ n. i < n) (sym as_many) before))))
        (λ (le : length old ≤ i). let last : i ≡ length old = omega (arith, count_more) in subst (λ n. n ≤ 64 * length (get_or more i [])) (sym count_more) (subst (λ r. length old + 1 ≤ 64 * length r) (sym (ap (λ n. get_or more n []) last ∙ at_new)) (omega (arith, room))))
        (cases_lt i (length old));
    outside = λ i j le. related_added i j ∙ (λ k. was.outside i j (omega (arith, count_more)) k || (nat_eq i (length old) && ne_eqb j (length old) (λ e. absurd (omega (arith, count_more, e))) k)) ∙ none (nat_eq i (length old));
  }
    where
      none : (b : Bool) → (false || (b && false)) ≡ false
      none true = refl
      none false = refl

-- the row that is joined stays as it was, also where it is one of those that it is joined into
pub below_still : (old now : List (List ℕ)) (above below at : ℕ) → AreDone (λ i row. (j : ℕ) → j < length old → has_bit row j ≡ (bit old i j || (bit old i above && bit old below j))) old at now
    → (j : ℕ) → j < length old → bit now below j ≡ bit old below j
below_still old now above below at so_far j lt = ⊎_elim
    (λ before. so_far.done below before j lt ∙ absorbed (bit old below j) (bit old below above))
    (λ after. ap (λ row. has_bit row j) (so_far.rest below after))
    (cases_lt below at)
  where
    absorbed : (a b : Bool) → (a || (b && a)) ≡ a
    absorbed true b = refl
    absorbed false true = refl
    absorbed false false = refl

-- after a number was taken out, and the last one went into its gap
module _ (old mid new : List (List ℕ)) (gap : ℕ) (was : IsRelation old) (in_gap : gap < length old) (fewer : length mid + 1 ≡ length old)
    (taken : (i : ℕ) → i < length old - 1 → get_or mid i [] ≡ get_or old (moved gap (length old - 1) i) [])
    (kept : ArePreserved mid new)
    (bits : (i j : ℕ) → i < length mid → bit new i j ≡ cond (nat_eq j (length old - 1)) false (cond (nat_eq j gap) (bit mid i (length old - 1)) (bit mid i j))) where
  abbrev last : ℕ
  last = length old - 1

  from_old : (i j : ℕ) → i < last → bit mid i j ≡ bit old (moved gap last i) j
  from_old i j lt = ap (λ row. has_bit row j) (taken i lt)

  moved_below : (i : ℕ) → i < last → moved gap last i < length old
  moved_below i lt = elim (nat_eq i gap) as (λ b. cond b last i < length old) [ true ↦ omega (arith, in_gap) | false ↦ omega (arith, in_gap, lt) ]

  pub wide_removed : (n : ℕ) → AreWide old n → AreWide new n
  wide_removed n wide i lt =
      let before : i < last = omega (arith, fewer, kept.rows) in
      subst (λ m. n ≤ 64 * m) (sym (kept.words i ∙ ap length (taken i before))) (wide (moved gap last i) (moved_below i before))

  pub relation_removed : IsRelation new
  relation_removed = record {
    wide = λ i lt.
        let before : i < last = omega (arith, fewer, kept.rows) in
        let room = was.wide (moved gap last i) (moved_below i before) in
        let same : length (get_or new i []) ≡ length (get_or old (moved gap last i) []) = kept.words i ∙ ap length (taken i before) in
        omega (arith, room, same, fewer, kept.rows);
    outside = λ i j le. ⊎_elim
        (λ (before : i < length mid). bits i j before ∙ ⊎_elim
        (λ here. ap (λ b. cond b false (cond (nat_eq j gap) (bit mid i last) (bit mid i j))) here.0)
        (λ there.
        ap (λ b. cond b false (cond (nat_eq j gap) (bit mid i last) (bit mid i j))) there.0
        ∙ ap (λ b. cond b (bit mid i last) (bit mid i j)) (ne_eqb j gap (λ e. there.1 (omega (arith, e, le, fewer, kept.rows, in_gap))))
        ∙ from_old i j (omega (arith, fewer)) ∙ was.outside (moved gap last i) j (past j le there.1))
        (eqb_tells j last))
        (λ (after : length mid ≤ i). no_row new i j (subst (λ n. n ≤ i) (sym kept.rows) after))
        (cases_lt i (length mid));
  }
    where
      past : (j : ℕ) → length new ≤ j → (j ≡ last → ⊥) → length old ≤ j
      past j le off = omega (arith, le, off, fewer, kept.rows)

  pub related_removed : (i j : ℕ) → i < last → j < last → bit new i j ≡ bit old (moved gap last i) (moved gap last j)
  related_removed i j in_i in_j =
      bits i j (omega (arith, fewer)) ∙ ap (λ b. cond b false (cond (nat_eq j gap) (bit mid i last) (bit mid i j))) (ne_eqb j last (λ e. absurd (omega (arith, e))))
      ∙ (elim (nat_eq j gap) as (λ b. cond b (bit mid i last) (bit mid i j) ≡ bit old (moved gap last i) (cond b last j)) [ true ↦ from_old i last in_i | false ↦ from_old i j in_i ])
