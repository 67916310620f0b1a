use Rattle.std.proofs.Common.{◌≡◌, ◌∙◌, ◌&&◌, ◌∷◌, List, [], Option, IfSome, ap, subst}
use Rattle.rbac_decide.proofs.Common.{has, Name, name_cmp, juniors_by, is_touched, of_touched}
use Rattle.rbac_decide.proofs.AffectedLemmas.{plan_of, plan_of_nothing}
use Rattle.rbac_decide.proofs.counting.affected.plan_user.Goals as goal

pub returns-in_ok-sets-in-Some-clause-planned : goal.returns-in_ok-sets-in-Some-clause-planned
returns-in_ok-sets-in-Some-clause-planned c =
    let t = c.args.tables.now in
    let users = c.args.user.now ∷ [] in
    plan_of c.plan.result c.deref.result.now c.from_ref.result.now (of_touched t (juniors_by t c.args.role.now) users) c.plan.new.self c.plan.ensures.sets c.plan.ensures.users c.plan.ensures.placed
    (λ s u. (λ i. has name_cmp s (c.deref.ensures.value i) && has name_cmp u (c.from_ref.ensures.value i)) ∙ (λ i. c.in_ok-sets-in-Some.ensures s i && has name_cmp u users)
    ∙ ap (λ (below : List Name). is_touched below s t.static_sets.content && has name_cmp u users) (subst (λ (o : Option (List Name)). IfSome o (λ below. below ≡ juniors_by t c.args.role.now)) c.in-Some.is c.in_ok-below.ensures.some))

pub returns-in-None-clause-planned : goal.returns-in-None-clause-planned
returns-in-None-clause-planned c =
    let t = c.args.tables.now in
    plan_of_nothing c.plan_nothing.result t (juniors_by t c.args.role.now) (c.args.user.now ∷ []) c.in_ok-below.field-0 c.plan_nothing.new.counts c.in-None.is c.in_ok-below.ensures.none c.plan_nothing.ensures.planned
