use Rattle.std.proofs.Common.{◌∙◌}
use Rattle.rbac_hierarchy.proofs.NumberLemmas.{has_equal}
use Rattle.rbac_review.proofs.hashed.is_among.Goals as goal

pub returns : goal.returns
returns c = c.contains.ensures ∙ has_equal c.args.name.now c.args.names.now.keys
