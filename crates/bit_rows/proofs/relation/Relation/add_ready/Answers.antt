use Rattle.std.proofs.Common.{ℕ, ◌≡◌, ◌<◌, ◌≤◌, ◌+◌, ◌*◌, ◌||◌, ◌&&◌, ◌++◌, ◌∷◌, [], nat_eq, length, refl, sym, subst, ap, ◌∙◌, arith}
use Rattle.bit_rows.specs.Bits.{Rows, has_bit, bit, related, count, AreWide}
use Rattle.bit_rows.proofs.RowLemmas.{relation_added, related_added, wide_with, wide_without, wide_last}
use Rattle.bit_rows.proofs.relation.Relation.add_ready.Goals as goal

-- there is a bit for the new number in each row
in_width : (c : goal.After-push_reserved) → length c.self.inside.rows.items < 64 * c.self.inside.width
in_width c = omega (arith, subst (λ (r : Rows). 0 < r.room) (sym c.self.view_is) c.requires)

was_wide : (c : goal.After-push_reserved) → AreWide (c.take_last-row.new.self.items ++ c.take_last-row.result ∷ []) (64 * c.self.inside.width)
was_wide c = subst (λ rows. AreWide rows (64 * c.self.inside.width)) c.take_last-row.ensures.items c.self.invariant.spare_wide

own_wide : (c : goal.After-push_reserved) → 64 * c.self.inside.width ≤ 64 * length c.leave.new.self
own_wide c = subst (λ n. 64 * c.self.inside.width ≤ 64 * n) (sym c.leave.ensures.length) (wide_last c.take_last-row.new.self.items c.take_last-row.result (64 * c.self.inside.width) (was_wide c))

count_is : (c : goal.After-push_reserved) → c.len-number.result ≡ length c.self.inside.rows.items
count_is c = c.len-number.ensures ∙ c.self.inside.rows.ok.0

own : (c : goal.After-push_reserved) → (j : ℕ) → has_bit c.leave.new.self j ≡ nat_eq j (length c.self.inside.rows.items)
own c j = c.leave.ensures.bits j ∙ ap (nat_eq j) (count_is c)

wider : (c : goal.After-push_reserved) → AreWide c.self.inside.rows.items (length c.self.inside.rows.items + 1)
wider c i lt = omega (arith, c.self.invariant.wide i lt, in_width c)

pub invariant_of-self : goal.invariant_of-self
invariant_of-self c =
    let old = c.self.inside.rows.items in
    let row = c.leave.new.self in
    rw c.push_reserved.ensures.items (record {
      relation = relation_added old old row c.self.invariant.relation refl (wider c) (λ i j. refl) (omega (arith, in_width c, own_wide c)) (own c);
      wide = wide_with old row (64 * c.self.inside.width) c.self.invariant.wide (own_wide c);
      spare_wide = wide_without c.take_last-row.new.self.items c.take_last-row.result (64 * c.self.inside.width) (was_wide c);
    })

pub returns-clause-related_to_itself : goal.returns-clause-related_to_itself
returns-clause-related_to_itself c = λ i j.
    let old = c.self.inside.rows.items in
    let row = c.leave.new.self in
    ap (λ rows. bit rows i j) c.push_reserved.ensures.items
    ∙ related_added old old row c.self.invariant.relation refl (wider c) (λ i j. refl) (omega (arith, in_width c, own_wide c)) (own c) i j
    ∙ ap (λ (r : Rows). related r i j || (nat_eq i (count r) && nat_eq j (count r))) c.self.view_is
