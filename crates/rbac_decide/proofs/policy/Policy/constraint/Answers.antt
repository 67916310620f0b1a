use Rattle.std.proofs.Common.{rules, ◌≡◌, ◌||◌, true, Some, None, sym, ap}
use Rattle.rbac_decide.proofs.Common.{first_where, has, Name, name_cmp, RoleSet, is_constrained, Static, Dynamic, name_of, constraint_of, a_set, or_left}
use Rattle.rbac_decide.proofs.Common.{or_right}
use Rattle.rbac_decide.proofs.BreachLemmas.{some_first, none_first}
use Rattle.rbac_decide.proofs.policy.Policy.constraint.Goals as goal

pub returns-in-Some : goal.returns-in-Some
returns-in-Some c =
    let s = c.args.self.now in
    let role = c.args.role.now in
    let e : Name × RoleSet = c.in-Some.entry.now in
    let some : first_where (λ (e : Name × RoleSet). has name_cmp role e.1.roles) s.static_sets ≡ Some e = search rules in
    let is : is_constrained role s.static_sets ≡ true = (some_first _ s.static_sets e some).1 in
    let told : constraint_of role s ≡ a_set Static e.0 = rw is (ap (λ o. a_set Static (name_of o)) some) in
    (or_left _ _ is, sym told)

pub returns-in-Some-set_with : goal.returns-in-Some-set_with
returns-in-Some-set_with c =
    let s = c.args.self.now in
    let role = c.args.role.now in
    let e : Name × RoleSet = c.in-Some-set_with.entry.now in
    let none : first_where (λ (e : Name × RoleSet). has name_cmp role e.1.roles) s.static_sets ≡ None = search rules in
    let some : first_where (λ (e : Name × RoleSet). has name_cmp role e.1.roles) s.dynamic_sets ≡ Some e = search rules in
    let told : constraint_of role s ≡ a_set Dynamic e.0 = rw (none_first _ s.static_sets none) (ap (λ o. a_set Dynamic (name_of o)) some) in
    (or_right _ _ (some_first _ s.dynamic_sets e some).1, sym told)

pub returns : goal.returns
returns c =
    let s = c.args.self.now in
    let role = c.args.role.now in
    let static : first_where (λ (e : Name × RoleSet). has name_cmp role e.1.roles) s.static_sets ≡ None = search rules in
    let dynamic : first_where (λ (e : Name × RoleSet). has name_cmp role e.1.roles) s.dynamic_sets ≡ None = search rules in
    λ i. none_first _ s.static_sets static i || none_first _ s.dynamic_sets dynamic i
