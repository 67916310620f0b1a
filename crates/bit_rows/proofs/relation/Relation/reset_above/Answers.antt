use Rattle.std.proofs.Common.{◌≡◌, ◌*◌, nat_eq, cond, take, drop, ◌++◌, length, sym, subst, ap, ◌∙◌}
use Rattle.bit_rows.specs.Bits.{Rows, bit, related, AreReady}
use Rattle.bit_rows.proofs.RowLemmas.{whole, wide_still, relation_reset, related_reset}
use Rattle.bit_rows.proofs.relation.Relation.reset_above.Goals as goal

written : (c : goal.After-self-1) → take c.self.inside.rows.len (c.reset_above.new.rows ++ drop (length c.reset_above.new.rows) c.self.inside.rows.items) ≡ c.reset_above.new.rows
written c =
    let inside = c.self.inside in
    whole inside.rows.len c.reset_above.new.rows inside.rows.items (rw c.deref_mut.ensures.value at c.reset_above.ensures.lengths.rows) (sym inside.rows.ok.0)

pub invariant_of-self : goal.invariant_of-self
invariant_of-self c =
    let same = c.deref_mut.ensures.value in
    subst (λ rows. AreReady rows c.self.inside.spare.items c.self.inside.width) (sym (written c)) (record {
      relation = relation_reset c.self.inside.rows.items c.reset_above.new.rows c.args.above c.self.invariant.relation (rw same at c.reset_above.ensures.lengths) (rw same at c.reset_above.ensures.alone);
      wide = wide_still c.self.inside.rows.items c.reset_above.new.rows (64 * c.self.inside.width) (rw same at c.reset_above.ensures.lengths) c.self.invariant.wide;
      spare_wide = c.self.invariant.spare_wide;
    })

pub returns-clause-related : goal.returns-clause-related
returns-clause-related c = λ i j.
    let same = c.deref_mut.ensures.value in
    ap (λ rows. bit rows i j) (written c)
    ∙ related_reset c.self.inside.rows.items c.reset_above.new.rows c.args.above c.self.invariant.relation (rw same at c.reset_above.ensures.lengths) (rw same at c.reset_above.ensures.alone) i j
    ∙ ap (λ (r : Rows). cond (related r i c.args.above) (nat_eq j i) (related r i j)) c.self.view_is
