use Rattle.std.proofs.Common.{rules, ◌≡◌, Bool, Option, Some, None, not, sym, ap}
use Rattle.rbac_decide.proofs.Common.{first_where, is_authorized, Name, NotAuthorized, Hindrance, name_found, a_role}
use Rattle.rbac_decide.proofs.HindranceLemmas.{all_where_none, not_all_where_some}
use Rattle.rbac_decide.proofs.policy.Policy.deny_unauthorized.Goals as goal

pub returns-in-Some : goal.returns-in-Some
returns-in-Some c =
    let passes : Name → Bool = is_authorized c.args.self.now c.args.user.now in
    let role : Name = c.in-Some.role.now in
    let some : first_where (λ r. not (passes r)) c.args.roles.now ≡ Some role = search rules in
    let told : Option Name → Hindrance = λ o. record { denial = NotAuthorized; named = a_role (name_found o) } in
    (ap not (not_all_where_some passes c.args.roles.now role some), ap told (sym some))

pub returns-in-None : goal.returns-in-None
returns-in-None c =
    let passes : Name → Bool = is_authorized c.args.self.now c.args.user.now in
    let none : first_where (λ r. not (passes r)) c.args.roles.now ≡ None = search rules in
    ap not (all_where_none passes c.args.roles.now none)
