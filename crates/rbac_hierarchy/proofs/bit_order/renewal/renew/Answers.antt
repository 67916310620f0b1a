use Rattle.std.proofs.Common.{sym, ◌∙◌}
use Rattle.rbac_hierarchy.proofs.bit_order.renewal.renew.Goals as goal

pub returns-clause-renewed : goal.returns-clause-renewed
returns-clause-renewed c = record {
  as_many = c.join_pairs.ensures.count ∙ c.reset_above.ensures.count;
  still = λ i j e. c.join_pairs.ensures.still i j (c.reset_above.ensures.related i j ∙ e);
  joined = c.join_pairs.ensures.joined;
  least = λ R keeps. c.join_pairs.ensures.least R (λ i j e. keeps i j (sym (c.reset_above.ensures.related i j) ∙ e));
}
