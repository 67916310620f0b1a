use Rattle.std.proofs.Common.{rules, ◌≡◌, Some, None, sym, ap}
use Rattle.rbac_decide.proofs.Common.{first_where, Name, RoleSet, Static, name_of, a_breach}
use Rattle.rbac_decide.proofs.BreachLemmas.{some_first, none_first, breaking_with}
use Rattle.rbac_decide.proofs.policy.Policy.breach_with.Goals as goal

pub returns-in-Some : goal.returns-in-Some
returns-in-Some c =
    let s = c.args.self.now in
    let test = breaking_with s c.args.role.now c.args.user.now in
    let e : Name × RoleSet = c.in-Some.entry.now in
    let some : first_where test s.static_sets ≡ Some e = search rules in
    ((some_first test s.static_sets e some).1, sym (ap (λ o. a_breach Static c.args.user.now (name_of o)) some))

pub returns-in-None : goal.returns-in-None
returns-in-None c =
    let s = c.args.self.now in
    let test = breaking_with s c.args.role.now c.args.user.now in
    let none : first_where test s.static_sets ≡ None = search rules in
    none_first test s.static_sets none
