use Rattle.std.proofs.Common.{◌<◌, ◌≤◌, ◌*◌, ◌^◌, ◌||◌, ◌⊎◌, length, bit_or, sym, subst, ap, ◌∙◌, arith, inl, inr, ⊎_elim}
use Rattle.std.proofs.lemmas.Bool.{cases_lt}
use Rattle.std.proofs.lemmas.Nat.{or_lt}
use Rattle.bit_rows.specs.Bits.{has_bit}
use Rattle.bit_rows.proofs.BitLemmas.{joined_kept, joined_more, has_bit-joined, any_default}
use Rattle.bit_rows.proofs.row.BitRow.join.Goals as goal
use Rattle.bit_rows.proofs.row.BitRow.join.Goals.{then-joined-index, else-joined-index}

pub loop-k-preserved : goal.loop-k-preserved
loop-k-preserved c =
    let old = c.self.inside.words.items in
    let other = c.other.inside.words.items in
    let new = c.loop-k.self-inside.words.items in
    let k = c.loop-k.k in
    let in_new : k < length new = omega (arith, c.loop-k.invariant.length, c.loop-k-test.true, c.min-words.ensures, c.len.ensures, c.len-2.ensures) in
    let in_other : k < length other = omega (arith, c.loop-k-test.true, c.min-words.ensures, c.len.ensures, c.len-2.ensures) in
    let here = c.index.ensures ∙ any_default new k c.index.result.now 0 in_new in
    let there = c.index-in-loop-k.ensures ∙ any_default other k c.index-in-loop-k.result.now 0 in_other in
    let now = c.index-in-loop-k-2.ensures ∙ any_default new k c.index-in-loop-k-2.result.now 0 in_new in
    elim c.if-joined-index.branch [
      | then-joined-index w ↦
          let v = bit_or c.index.result.now c.index-in-loop-k.result.now in
          let fits : v < 2 ^ 64 = or_lt 64 c.index.result.now c.index-in-loop-k.result.now (omega arith) (omega arith) in
          rw w.grown-is (rw w.self-inside-is (joined_more old other new k c.loop-k.grown c.loop-k.invariant v (λ i. bit_or (here i) (there i)) (λ e. w.if-joined-index.true (e ∙ sym now)) fits in_new))
      | else-joined-index w ↦ rw w.grown-is (rw w.self-inside-is (joined_kept old other new k c.loop-k.grown c.loop-k.invariant ((λ i. bit_or (sym here i) (sym there i)) ∙ w.if-joined-index.false ∙ now)))
    ]

pub returns-clause-bits : goal.returns-clause-bits
returns-clause-bits c = λ j lt.
    let old = c.self.inside.words.items in
    let other = c.other.inside.words.items in
    let asked = subst (λ words. j < 64 * length words) (sym c.self.view_is) lt in
    let past : (length old ≤ c.loop-k.k) ⊎ (length other ≤ c.loop-k.k) = ⊎_elim
    (λ (lt : length old < length other). inl (omega (arith, c.loop-k-test.false, c.min-words.ensures, c.len.ensures, c.len-2.ensures)))
    (λ (le : length other ≤ length old). inr (omega (arith, c.loop-k-test.false, c.min-words.ensures, c.len.ensures, c.len-2.ensures)))
    (cases_lt (length old) (length other)) in
    has_bit-joined old other c.loop-k.self-inside.words.items c.loop-k.k c.loop-k.grown c.loop-k.invariant past j (omega (arith, asked))
    ∙ ap (λ words. has_bit words j || has_bit other j) c.self.view_is
    ∙ ap (λ words. has_bit c.args.self.now j || has_bit words j) c.other.view_is
