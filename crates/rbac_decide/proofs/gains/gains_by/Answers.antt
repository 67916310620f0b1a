use Rattle.std.proofs.Common.{◌∙◌, List, map, ap, subst}
use Rattle.rbac_decide.proofs.Common.{option_copied, Name, RoleSet, cut_to, entry_of, AreGains, if_each}
use Rattle.rbac_decide.proofs.GainSteps.{cut_twice}
use Rattle.rbac_decide.proofs.gains.gains_by.Goals as goal

pub returns : goal.returns
returns c =
    let t = c.args.tables.now in
    let below = c.in_ok-below.below in
    let roles = below.roles in
    let of_sets = t.static_sets.content in
    let cut : Name × RoleSet → Name × RoleSet = λ e. (e.0, cut_to roles e.1) in
    let same = ap (map (entry_of roles)) c.deref.ensures.value ∙ c.in_ok-sets.ensures.sets ∙ ap (map cut) c.in_ok-below.ensures.sets ∙ cut_twice roles of_sets in
    if_each c.gains_of.result
    (AreGains t c.args.counts.now (map (entry_of roles) c.deref.result.now) (option_copied c.args.ascendant) c.args.users.now)
    _
    (λ gains told. (roles, c.in_ok-below.ensures.roles, subst (λ (sets : List (Name × RoleSet)). AreGains t c.args.counts.now sets (option_copied c.args.ascendant) c.args.users.now gains) same told))
    c.gains_of.ensures
