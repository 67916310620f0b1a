use Rattle.std.proofs.Common.{◌≡◌, ◌*◌, ◌||◌, ◌&&◌, take, drop, ◌++◌, length, sym, subst, ap, ◌∙◌}
use Rattle.bit_rows.specs.Bits.{Rows, bit, related, AreReady}
use Rattle.bit_rows.proofs.RowLemmas.{whole, wide_still, related_joined}
use Rattle.bit_rows.proofs.relation.Relation.join_above.Goals as goal

written : (c : goal.After-self-1) → take c.self.inside.rows.len (c.join_above.new.rows ++ drop (length c.join_above.new.rows) c.self.inside.rows.items) ≡ c.join_above.new.rows
written c =
    let inside = c.self.inside in
    whole inside.rows.len c.join_above.new.rows inside.rows.items (rw c.deref_mut.ensures.value at c.join_above.ensures.lengths.rows) (sym inside.rows.ok.0)

pub invariant_of-self : goal.invariant_of-self
invariant_of-self c = subst (λ rows. AreReady rows c.self.inside.spare.items c.self.inside.width) (sym (written c)) (record {
  relation = c.join_above.ensures.relation;
  wide = wide_still c.self.inside.rows.items c.join_above.new.rows (64 * c.self.inside.width) (rw c.deref_mut.ensures.value at c.join_above.ensures.lengths) c.self.invariant.wide;
  spare_wide = c.self.invariant.spare_wide;
})

pub returns-clause-related : goal.returns-clause-related
returns-clause-related c = λ i j.
    let old = c.self.inside.rows.items in
    let same = c.deref_mut.ensures.value in
    ap (λ rows. bit rows i j) (written c)
    ∙ related_joined old c.join_above.new.rows c.args.above c.args.below c.self.invariant.relation c.join_above.ensures.relation (rw same at c.join_above.ensures.lengths) (rw same at c.join_above.ensures.joined) i j
    ∙ ap (λ (r : Rows). related r i j || (related r i c.args.above && related r c.args.below j)) c.self.view_is
