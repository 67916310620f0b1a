use Rattle.std.proofs.Common.{◌≡◌, ◌*◌, take, drop, ◌++◌, length, sym, subst, ap, ◌∙◌}
use Rattle.bit_rows.specs.Bits.{Rows, bit, related, AreJoined, AreReady}
use Rattle.bit_rows.proofs.RowLemmas.{whole, wide_still, relation_least}
use Rattle.bit_rows.proofs.relation.Relation.join_pairs.Goals as goal

written : (c : goal.After-self-1) → take c.self.inside.rows.len (c.join_until_closed.new.rows ++ drop (length c.join_until_closed.new.rows) c.self.inside.rows.items) ≡ c.join_until_closed.new.rows
written c =
    let inside = c.self.inside in
    whole inside.rows.len c.join_until_closed.new.rows inside.rows.items (rw c.deref_mut.ensures.value at c.join_until_closed.ensures.lengths.rows) (sym inside.rows.ok.0)

pub invariant_of-self : goal.invariant_of-self
invariant_of-self c =
    let same = c.deref_mut.ensures.value in
    subst (λ rows. AreReady rows c.self.inside.spare.items c.self.inside.width) (sym (written c)) (record {
      relation = relation_least c.self.inside.rows.items c.join_until_closed.new.rows c.args.pairs.now c.self.invariant.relation (rw same at c.join_until_closed.ensures.lengths) (rw same at c.join_until_closed.ensures.least);
      wide = wide_still c.self.inside.rows.items c.join_until_closed.new.rows (64 * c.self.inside.width) (rw same at c.join_until_closed.ensures.lengths) c.self.invariant.wide;
      spare_wide = c.self.invariant.spare_wide;
    })

pub returns-clause-joined : goal.returns-clause-joined
returns-clause-joined c = subst (λ rows. AreJoined (bit rows) c.args.pairs.now) (sym (written c)) c.join_until_closed.ensures.joined

pub returns-clause-least : goal.returns-clause-least
returns-clause-least c = λ R inside joins i j set.
    let same = c.deref_mut.ensures.value in
    (rw same at c.join_until_closed.ensures.least) R (λ x y t. inside x y (sym (ap (λ (r : Rows). related r x y) c.self.view_is) ∙ t)) joins i j (ap (λ rows. bit rows i j) (sym (written c)) ∙ set)
