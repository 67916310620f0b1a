use Rattle.std.proofs.Common.{◌≡◌, ◌∙◌, ap}
use Rattle.sorted_keys.specs.Keys.{has}
use Rattle.rbac_terms.specs.Name.{Name, name_cmp}
use Rattle.rbac_hierarchy.proofs.LoopLemmas.{if_each}
use Rattle.rbac_review.proofs.subjects.heirs_of.Goals as goal

pub returns : goal.returns
returns c = if_each c.of.result _ _ (λ hashed told. λ (r : Name). told r ∙ ap (has name_cmp r) c.in_ok-heirs.ensures) c.of.ensures
