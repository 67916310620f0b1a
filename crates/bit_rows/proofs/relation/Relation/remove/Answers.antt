use Rattle.std.proofs.Common.{ℕ, ◌≡◌, ◌<◌, ◌+◌, ◌-◌, ◌*◌, ◌++◌, [], nat_eq, false, cond, take, drop, length, get_or, sym, subst, ap, ◌∙◌, arith, ⊎_elim}
use Rattle.std.proofs.lemmas.Bool.Decides.{eqb_tells}
use Rattle.bit_rows.specs.Bits.{Rows, bit, related, count, moved, AreReady}
use Rattle.bit_rows.proofs.RowLemmas.{whole, wide_removed, relation_removed, related_removed}
use Rattle.bit_rows.proofs.relation.Relation.remove.Goals as goal

written : (c : goal.After-self-1) → take c.swap_remove.new.self.len (c.move_bits.new.rows ++ drop (length c.move_bits.new.rows) c.swap_remove.new.self.items) ≡ c.move_bits.new.rows
written c =
    let mid = c.swap_remove.new.self in
    whole mid.len c.move_bits.new.rows mid.items (rw c.deref_mut.ensures.value at c.move_bits.ensures.lengths.rows) (sym mid.ok.0)

count_is : (c : goal.After-self-1) → c.self.inside.rows.len ≡ length c.self.inside.rows.items
count_is c = c.self.inside.rows.ok.0

taken : (c : goal.After-self-1) → (i : ℕ) → i < length c.self.inside.rows.items - 1 → get_or c.swap_remove.new.self.items i [] ≡ get_or c.self.inside.rows.items (moved c.args.gap (length c.self.inside.rows.items - 1) i) []
taken c i lt =
    let old = c.self.inside.rows.items in
    let mid = c.swap_remove.new.self.items in
    let gap = c.args.gap in
    let last = length old - 1 in
    ⊎_elim
    (λ here. ap (λ n. get_or mid n []) here.1 ∙ c.swap_remove.ensures.by_index.0 [] (omega (arith, count_is c, lt, here.1)) ∙ ap (λ n. get_or old (n - 1) []) (count_is c) ∙ sym (ap (λ b. get_or old (cond b last i) []) here.0))
    (λ there. c.swap_remove.ensures.by_index.1 i [] there.1 (omega (arith, count_is c, lt)) ∙ sym (ap (λ b. get_or old (cond b last i) []) there.0))
    (eqb_tells i gap)

in_gap : (c : goal.After-self-1) → c.args.gap < length c.self.inside.rows.items
in_gap c = subst (λ (r : Rows). c.args.gap < count r) (sym c.self.view_is) c.requires

fewer : (c : goal.After-self-1) → length c.swap_remove.new.self.items + 1 ≡ length c.self.inside.rows.items
fewer c = omega (arith, count_is c, c.swap_remove.new.self.ok.0, c.swap_remove.ensures.len)

bits : (c : goal.After-self-1) → (i j : ℕ) → i < length c.swap_remove.new.self.items → bit c.move_bits.new.rows i j
    ≡ cond (nat_eq j (length c.self.inside.rows.items - 1)) false (cond (nat_eq j c.args.gap) (bit c.swap_remove.new.self.items i (length c.self.inside.rows.items - 1)) (bit c.swap_remove.new.self.items i j))
bits c i j lt =
    let mid = c.swap_remove.new.self.items in
    (rw c.deref_mut.ensures.value at c.move_bits.ensures.moved) i j lt
    ∙ ap (λ n. cond (nat_eq j (n - 1)) false (cond (nat_eq j c.args.gap) (bit mid i (n - 1)) (bit mid i j))) (c.len-last.ensures ∙ count_is c)

pub invariant_of-self : goal.invariant_of-self
invariant_of-self c =
    let old = c.self.inside.rows.items in
    let mid = c.swap_remove.new.self in
    let same = c.deref_mut.ensures.value in
    let kept = rw same at c.move_bits.ensures.lengths in
    subst (λ rows. AreReady rows c.self.inside.spare.items c.self.inside.width) (sym (written c)) (record {
      relation = relation_removed old mid.items c.move_bits.new.rows c.args.gap c.self.invariant.relation (in_gap c) (fewer c) (taken c) kept (bits c);
      wide = wide_removed old mid.items c.move_bits.new.rows c.args.gap c.self.invariant.relation (in_gap c) (fewer c) (taken c) kept (bits c) (64 * c.self.inside.width) c.self.invariant.wide;
      spare_wide = c.self.invariant.spare_wide;
    })

pub returns-clause-related : goal.returns-clause-related
returns-clause-related c =
    let old = c.self.inside.rows.items in
    let mid = c.swap_remove.new.self in
    let same = c.deref_mut.ensures.value in
    subst (λ (r : Rows). (i j : ℕ) → i < count r - 1 → j < count r - 1 → bit (take mid.len (c.move_bits.new.rows ++ drop (length c.move_bits.new.rows) mid.items)) i j ≡ related r (moved c.args.gap (count r - 1) i) (moved c.args.gap (count r - 1) j)) c.self.view_is
    (λ i j in_i in_j. ap (λ rows. bit rows i j) (written c) ∙ related_removed old mid.items c.move_bits.new.rows c.args.gap c.self.invariant.relation (in_gap c) (fewer c) (taken c) (rw same at c.move_bits.ensures.lengths) (bits c) i j in_i in_j)
