use Rattle.std.proofs.Common.{rules, ◌≡◌, ◌∙◌, false, sym}
use Rattle.rbac_decide.proofs.Common.{list_any, Name, RoleSet, is_broken, Session}
use Rattle.rbac_decide.proofs.BreachLemmas.{none_any, first_here, first_later}
use Rattle.rbac_decide.proofs.policy.Policy.session_breaking.Goals as goal

pub returns-then-not-any : goal.returns-then-not-any
returns-then-not-any c =
    let new : RoleSet = record { roles = c.args.roles.now; cardinality = c.args.n } in
    let s = c.args.self.now in
    let none : list_any (λ (x : Name × Session). is_broken x.1.active new) s.sessions ≡ false = search rules in
    sym (none_any (λ (x : Name × Session). is_broken x.1.active new) s.sessions none)

pub returns-in-Some : goal.returns-in-Some
returns-in-Some c =
    let new : RoleSet = record { roles = c.args.roles.now; cardinality = c.args.n } in
    let s = c.args.self.now in
    sym (c.loop-place.invariant ∙ first_here (λ (x : Name × Session). is_broken x.1.active new) s.sessions c.loop-place.place c.in-Some.entry.now (search rules) (search rules))

pub loop-place-preserved : goal.loop-place-preserved
loop-place-preserved c =
    let new : RoleSet = record { roles = c.args.roles.now; cardinality = c.args.n } in
    let s = c.args.self.now in
    c.loop-place.invariant ∙ first_later (λ (x : Name × Session). is_broken x.1.active new) s.sessions c.loop-place.place (search rules)
