use Rattle.std.proofs.Common.{◌∙◌}
use Rattle.rbac_review.proofs.ReviewLemmas.{inherits_itself}
use Rattle.rbac_review.proofs.users.is_role.Goals as goal

pub returns : goal.returns
returns c = let h = c.args.hierarchy.now.content in c.inherits.ensures.test ∙ inherits_itself h.roles h.declared c.args.role.now
