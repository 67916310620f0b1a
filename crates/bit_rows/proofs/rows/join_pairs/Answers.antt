use Rattle.std.proofs.Common.{ℕ, ◌≡◌, ◌<◌, ◌+◌, ◌*◌, IsTrue, [], length, get_or, false, true, sym, subst, ap, ◌∙◌, arith, ⊎_elim}
use Rattle.std.proofs.lemmas.Bool.{both_ways, or_right}
use Rattle.std.proofs.lemmas.Bool.Decides.{eqb_tells}
use Rattle.bit_rows.specs.Bits.{bit, first_of, second_of}
use Rattle.bit_rows.proofs.RowLemmas.{preserved_twice, pair_still, pair_from}
use Rattle.bit_rows.proofs.rows.join_pairs.Goals as goal
use Rattle.bit_rows.proofs.rows.join_pairs.Goals.{then-join_row, else-join_row}

-- where no row had a bit more, the pairs so far and this one are joined
still_joined : (c : goal.Joined-join_row) → c.loop-pair.grown ≡ false → c.join_row.result ≡ false → (k : ℕ) → k < c.loop-pair.pair-index + 1 → (j : ℕ)
    → j < 64 * length (get_or c.join_row.new.rows (first_of c.args.pairs.now k) []) → IsTrue (bit c.join_row.new.rows (second_of c.args.pairs.now k) j)
    → IsTrue (bit c.join_row.new.rows (first_of c.args.pairs.now k) j)
still_joined c none unchanged k lt j room set = ⊎_elim
    (λ here.
    let pairs = c.args.pairs.now in
    ap (λ m. bit c.join_row.new.rows (first_of pairs m) j) here.1 ∙ c.join_row.ensures.joined j (subst (λ m. j < 64 * length (get_or c.loop-pair.rows (first_of pairs m) [])) here.1 room_before)
    ∙ or_right _ _ (ap (λ m. bit c.loop-pair.rows (second_of pairs m) j) (sym here.1) ∙ was))
    (λ there. same (first_of c.args.pairs.now k) j ∙ c.loop-pair.invariant.joined none k (omega (arith, there.1)) j room_before was)
    (eqb_tells k c.loop-pair.pair-index)
  where
    same : (i j : ℕ) → bit c.join_row.new.rows i j ≡ bit c.loop-pair.rows i j
    same = c.join_row.ensures.same unchanged

    was : bit c.loop-pair.rows (second_of c.args.pairs.now k) j ≡ true
    was = sym (same (second_of c.args.pairs.now k) j) ∙ set

    room_before : j < 64 * length (get_or c.loop-pair.rows (first_of c.args.pairs.now k) [])
    room_before = subst (λ n. j < 64 * n) (c.join_row.ensures.lengths.words (first_of c.args.pairs.now k)) room

pub loop-pair-preserved : goal.loop-pair-preserved
loop-pair-preserved c =
    let now = c.loop-pair.rows in
    let new = c.join_row.new.rows in
    let at = c.loop-pair.pair-index in
    let first = first_of c.args.pairs.now at in
    let second = second_of c.args.pairs.now at in
    let so_far = c.loop-pair.invariant in
    let step = c.join_row.ensures in
    record {
      lengths = preserved_twice c.args.rows.now now new so_far.lengths step.lengths;
      still = λ i j is. pair_still now new first second step.lengths step.others step.joined i j (so_far.still i j is);
      least = λ R inside joins. pair_from now new first second step.lengths step.others step.joined R (so_far.least R inside joins) (joins at c.loop-pair-test.true);
      fewer = elim c.if-join_row.branch [
        | then-join_row w ↦ λ e. omega (arith, step.fewer w.if-join_row.true, so_far.not_more)
        | else-join_row w ↦ λ e. omega (arith, so_far.fewer (sym w.grown-is ∙ e), step.not_more)
      ];
      not_more = omega (arith, so_far.not_more, step.not_more);
      joined = elim c.if-join_row.branch [
        | then-join_row w ↦ λ e. absurd (both_ways _ e w.grown-is)
        | else-join_row w ↦ λ e. still_joined c (sym w.grown-is ∙ e) w.if-join_row.false
      ];
    }
