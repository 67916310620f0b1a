use Rattle.std.proofs.Common.{rules, ◌≡◌, None, arith}
use Rattle.rbac_decide.proofs.Common.{first_where, eq_by_cmp, Name, name_cmp}
use Rattle.rbac_decide.proofs.BreachLemmas.{none_first}
use Rattle.rbac_decide.proofs.policy.Policy.limiting_pair.Goals as goal

pub returns-in-None : goal.returns-in-None
returns-in-None c =
    let s = c.args.self.now in
    let a = c.args.ascendant.now in
    let none : first_where (λ (pair : Name × Name). eq_by_cmp name_cmp a pair.0) s.declared ≡ None = search rules in
    grind (arith, none_first (λ (pair : Name × Name). eq_by_cmp name_cmp a pair.0) s.declared none)
