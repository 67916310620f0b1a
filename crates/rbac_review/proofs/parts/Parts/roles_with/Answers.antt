use Rattle.std.proofs.Common.{◌≡◌, ◌∙◌}
use Rattle.rbac_terms.specs.Name.{Name, Permission}
use Rattle.rbac_review.specs.Parts.{state_of}
use Rattle.rbac_hierarchy.proofs.LoopLemmas.{if_each}
use Rattle.rbac_review.proofs.SubjectLemmas.{heirs_have}
use Rattle.rbac_review.proofs.parts.Parts.roles_with.Goals as goal

pub returns : goal.returns
returns c =
    let s = state_of c.args.self.now in
    let permission : Permission = (c.args.operation.now, c.args.object.now) in
    if_each c.heirs_of.result _ _ (λ heirs told. λ (r : Name). told r ∙ heirs_have s permission c.grants_of-grants.result.now c.grants_of-grants.ensures r) c.heirs_of.ensures
