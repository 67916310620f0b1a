use Rattle.std.proofs.Common.{◌∙◌, ap, count_by}
use Rattle.rbac_decide.proofs.Common.{is_authorized, State}
use Rattle.rbac_decide.proofs.policy.Policy.count_authorized.Goals as goal

pub returns : goal.returns
returns c = c.count_authorized.ensures ∙ ap (λ (seen : State). count_by (is_authorized seen c.args.user.now) c.args.roles.now) c.self.view_is
