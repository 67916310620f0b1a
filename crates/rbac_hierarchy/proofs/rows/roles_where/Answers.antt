use Rattle.std.proofs.Common.{filter, ap, sym, ◌∙◌}
use Rattle.rbac_hierarchy.specs.Rows.{roles_in}
use Rattle.rbac_hierarchy.proofs.LoopLemmas.{taken_whole}
use Rattle.rbac_hierarchy.proofs.RowLemmas.{key_more, key_less, keys_where}
use Rattle.rbac_hierarchy.proofs.rows.roles_where.Goals as goal
use Rattle.rbac_hierarchy.proofs.rows.roles_where.Goals.{then-test+in_ok-add_copy, else-test}

pub loop-entry-preserved : goal.loop-entry-preserved
loop-entry-preserved g c =
    elim c.if-test.branch [
      | then-test+in_ok-add_copy w ↦
          w.roles-is ∙ w.in_ok-add_copy.ensures.added
          ∙ key_more (λ e. g.T.KeyTest.passes c.args.test.now e.0) c.args.rows.now c.loop-entry.entry-index c.entry-item.result _ c.requires c.loop-entry-test.true c.entry-item.is (sym c.test.ensures ∙ w.if-test.true) c.loop-entry.invariant
      | else-test w ↦
          w.roles-is
          ∙ key_less (λ e. g.T.KeyTest.passes c.args.test.now e.0) c.args.rows.now c.loop-entry.entry-index c.entry-item.result _ c.loop-entry-test.true c.entry-item.is (sym c.test.ensures ∙ w.if-test.false) c.loop-entry.invariant
    ]

pub returns : goal.returns
returns g c =
    c.loop-entry.invariant
    ∙ ap (λ t. roles_in (filter (λ e. g.T.KeyTest.passes c.args.test.now e.0) t)) (taken_whole c.args.rows.now c.loop-entry.entry-index c.loop-entry-test.false)
    ∙ keys_where (g.T.KeyTest.passes c.args.test.now) c.args.rows.now
