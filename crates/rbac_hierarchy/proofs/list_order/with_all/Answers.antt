use Rattle.std.proofs.Common.{◌||◌, ◌∙◌, ap}
use Rattle.sorted_keys.specs.Keys.{has}
use Rattle.rbac_terms.specs.Name.{name_cmp}
use Rattle.rbac_hierarchy.proofs.LoopLemmas.{or_nothing, has_one_more, taken_whole}
use Rattle.rbac_hierarchy.proofs.list_order.with_all.Goals as goal

pub loop-name-init : goal.loop-name-init
loop-name-init c = λ r. or_nothing (has name_cmp r c.args.names)

pub loop-name-preserved : goal.loop-name-preserved
loop-name-preserved c = λ r.
    ap (has name_cmp r) c.in_ok-add_copy.ensures.added
    ∙ has_one_more c.args.names c.loop-name.more c.args.added.now c.loop-name.name-index c.name-item.result c.loop-name-test.true c.name-item.is c.loop-name.invariant r

pub returns : goal.returns
returns c = λ r. c.loop-name.invariant r ∙ ap (λ t. has name_cmp r c.args.names || has name_cmp r t) (taken_whole c.args.added.now c.loop-name.name-index c.loop-name-test.false)
