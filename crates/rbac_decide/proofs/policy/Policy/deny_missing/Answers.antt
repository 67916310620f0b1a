use Rattle.std.proofs.Common.{rules, ◌≡◌, Bool, Option, Some, None, not, sym, ap}
use Rattle.rbac_decide.proofs.Common.{first_where, has, Name, name_cmp, NoRole, Hindrance, name_found, a_role}
use Rattle.rbac_decide.proofs.HindranceLemmas.{all_where_none, not_all_where_some}
use Rattle.rbac_decide.proofs.policy.Policy.deny_missing.Goals as goal

pub returns-in-Some : goal.returns-in-Some
returns-in-Some c =
    let passes : Name → Bool = λ r. has name_cmp r c.args.self.now.roles in
    let role : Name = c.in-Some.role.now in
    let some : first_where (λ r. not (passes r)) c.args.names.now ≡ Some role = search rules in
    let told : Option Name → Hindrance = λ o. record { denial = NoRole; named = a_role (name_found o) } in
    (ap not (not_all_where_some passes c.args.names.now role some), ap told (sym some))

pub returns-in-None : goal.returns-in-None
returns-in-None c =
    let passes : Name → Bool = λ r. has name_cmp r c.args.self.now.roles in
    let none : first_where (λ r. not (passes r)) c.args.names.now ≡ None = search rules in
    ap not (all_where_none passes c.args.names.now none)
