use Rattle.std.proofs.Common.{◌||◌, ◌∙◌, ap, false}
use Rattle.std.specs.Ordering.{eq_by_cmp}
use Rattle.sorted_keys.specs.Keys.{has}
use Rattle.rbac_terms.specs.Name.{name_cmp}
use Rattle.rbac_hierarchy.proofs.LoopLemmas.{any_one_more}
use Rattle.rbac_review.proofs.HashedLemmas.{has_more}
use Rattle.rbac_review.proofs.hashed.HashedNames.of.Goals as goal

pub loop-name-preserved : goal.loop-name-preserved
loop-name-preserved c = λ q.
    let keys = c.loop-name.names.keys in
    has_more keys c.insert.new.self.keys c.in_ok-copy.field-0 q (c.in_ok-insert.ensures.updates.0 q)
    ∙ ap (λ name. has name_cmp q keys || eq_by_cmp name_cmp q name) c.in_ok-copy.ensures
    ∙ ap (λ t. t || eq_by_cmp name_cmp q c.name-item.result) (c.loop-name.invariant q)
    ∙ any_one_more false (eq_by_cmp name_cmp q) c.names-listed.result.now c.loop-name.name-index c.name-item.result c.loop-name-test.true c.name-item.is
