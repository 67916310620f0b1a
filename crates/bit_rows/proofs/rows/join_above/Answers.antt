use Rattle.std.proofs.Common.{ℕ, ◌≡◌, ◌<◌, ◌≤◌, ◌||◌, ◌&&◌, List, Bool, [], length, false, true, refl, sym, subst, ap, ◌∙◌, arith}
use Rattle.bit_rows.specs.Bits.{has_bit, bit}
use Rattle.bit_rows.proofs.BitLemmas.{any_default}
use Rattle.bit_rows.proofs.RowLemmas.{kept_row, changed_row, relation_joined, below_still}
use Rattle.bit_rows.proofs.rows.join_above.Goals as goal
use Rattle.bit_rows.proofs.rows.join_above.Goals.{then-has, else-has}

-- what the row of a number is to be
abbrev Is : List (List ℕ) → ℕ → ℕ → ℕ → List ℕ → Type 0
Is old above below i row = (j : ℕ) → j < length old → has_bit row j ≡ (bit old i j || (bit old i above && bit old below j))

room : {m n j : ℕ} → n ≤ m → j < n → j < m
room le lt = omega arith

or_none : (a b : Bool) → a ≡ (a || (false && b))
or_none true b = refl
or_none false b = refl

pub loop-at-preserved : goal.loop-at-preserved
loop-at-preserved c =
    let old = c.args.rows.now in
    let now = c.loop-at.rows in
    let at = c.loop-at.at in
    let above = c.args.above in
    let below = c.args.below in
    let so_far = c.loop-at.invariant.rows in
    let in_now : at < length now = subst (λ n. at < n) (sym so_far.preserved.rows) c.loop-at-test.true in
    let asked : c.has.result ≡ bit old at above = c.has.ensures ∙ ap (λ row. has_bit row above) (any_default now at _ [] in_now ∙ so_far.rest at (omega arith)) in
    elim c.if-has.branch [
      | then-has w ↦
          let step = w.join_row.ensures in
          rw w.rows-is (record {
            relation = relation_joined now w.join_row.new.rows at below c.loop-at.invariant.relation step.lengths step.others step.joined;
            rows = changed_row (Is old above below) old at now so_far w.join_row.new.rows step.lengths step.others (λ j lt.
                step.joined j (room (c.loop-at.invariant.relation.wide at in_now) (subst (λ n. j < n) (sym so_far.preserved.rows) lt))
                ∙ (λ k. has_bit (so_far.rest at (omega arith) k) j || below_still old now above below at so_far j lt k)
                ∙ sym (ap (λ b. bit old at j || (b && bit old below j)) (sym asked ∙ w.if-has.true)));
          })
      | else-has w ↦ rw w.rows-is (record {
        relation = c.loop-at.invariant.relation;
        rows = kept_row (Is old above below) old at now so_far (λ j lt. or_none (bit old at j) (bit old below j) ∙ sym (ap (λ b. bit old at j || (b && bit old below j)) (sym asked ∙ w.if-has.false)));
      })
    ]
