use Rattle.std.proofs.Common.{◌∙◌, ◌&&◌, List, ap}
use Rattle.rbac_decide.proofs.Common.{has, Name, name_cmp, RoleSet, is_constrained, touched_sets, state_of}
use Rattle.rbac_decide.proofs.FreshLemmas.{gathered, both_swapped}
use Rattle.rbac_decide.proofs.TouchedLemmas.{constrained_touched, touched_by_constrained}
use Rattle.rbac_decide.proofs.touched.constrained_below.Goals as goal

pub returns-clause-roles : goal.returns-clause-roles
returns-clause-roles c = λ v.
    let t = c.args.tables.now in
    let below = c.in_ok-juniors.juniors in
    gathered (state_of t v) c.args.role.now below c.in_ok-roles.roles c.in_ok-juniors.ensures
    (λ r. c.in_ok-roles.ensures r
    ∙ ap (λ (sets : List (Name × RoleSet)). is_constrained r sets && has name_cmp r below) (c.deref.ensures.value ∙ c.in_ok-sets.ensures ∙ ap (touched_sets below) c.entries.ensures.entries)
    ∙ constrained_touched below r t.static_sets.content
    ∙ both_swapped (is_constrained r t.static_sets.content) (has name_cmp r below))

pub returns-clause-sets : goal.returns-clause-sets
returns-clause-sets c =
    let t = c.args.tables.now in
    let below = c.in_ok-juniors.juniors in
    c.in_ok-sets.ensures ∙ ap (touched_sets below) c.entries.ensures.entries
    ∙ touched_by_constrained below c.in_ok-roles.roles t.static_sets.content
    (λ r. c.in_ok-roles.ensures r
    ∙ ap (λ (sets : List (Name × RoleSet)). is_constrained r sets && has name_cmp r below) (c.deref.ensures.value ∙ c.in_ok-sets.ensures ∙ ap (touched_sets below) c.entries.ensures.entries)
    ∙ constrained_touched below r t.static_sets.content)
