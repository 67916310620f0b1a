use Rattle.std.proofs.Common.{refl, sym, ◌∙◌}
use Rattle.std.proofs.lemmas.Bool.{and_parts}
use Rattle.rbac_hierarchy.proofs.ChangeLemmas.{both_roles}
use Rattle.rbac_hierarchy.proofs.laws.make.Goals as goal

pub declare-requires-clause-ascendant : goal.declare-requires-clause-ascendant
declare-requires-clause-ascendant g c =
    let h = g.O.RoleOrder.content c.args.order.now in
    (and_parts _ _ (sym (both_roles h c.in-Declare.ascendant.now c.in-Declare.descendant.now _ c.closes_no_circle.ensures) ∙ c.if-closes_no_circle.true)).0

pub declare-requires-clause-descendant : goal.declare-requires-clause-descendant
declare-requires-clause-descendant g c =
    let h = g.O.RoleOrder.content c.args.order.now in
    (and_parts _ _ (and_parts _ _ (sym (both_roles h c.in-Declare.ascendant.now c.in-Declare.descendant.now _ c.closes_no_circle.ensures) ∙ c.if-closes_no_circle.true)).1).0

pub returns-then-closes_no_circle-clause-made : goal.returns-then-closes_no_circle-clause-made
returns-then-closes_no_circle-clause-made g c =
    let h = g.O.RoleOrder.content c.args.order.now in
    rw (c.in-Declare.is, sym (both_roles h c.in-Declare.ascendant.now c.in-Declare.descendant.now _ c.closes_no_circle.ensures) ∙ c.if-closes_no_circle.true) c.declare.ensures.declared

pub returns-else-closes_no_circle-clause-made : goal.returns-else-closes_no_circle-clause-made
returns-else-closes_no_circle-clause-made g c =
    let h = g.O.RoleOrder.content c.args.order.now in
    rw (c.in-Declare.is, sym (both_roles h c.in-Declare.ascendant.now c.in-Declare.descendant.now _ c.closes_no_circle.ensures) ∙ c.if-closes_no_circle.false) refl
