use Rattle.std.proofs.Common.{◌∙◌, ap, nat_le, count_by}
use Rattle.rbac_decide.proofs.Common.{is_authorized}
use Rattle.rbac_decide.proofs.policy.Policy.user_breaks.Goals as goal

pub returns : goal.returns
returns c = ap (nat_le c.args.n) (c.count_authorized.ensures ∙ ap (count_by (is_authorized c.args.self.now c.args.user.now)) c.names.ensures.names)
