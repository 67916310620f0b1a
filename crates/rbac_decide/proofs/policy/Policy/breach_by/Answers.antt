use Rattle.std.proofs.Common.{rules, ◌≡◌, ◌∙◌, is_some, Some, None, sym, ap}
use Rattle.rbac_decide.proofs.Common.{Name, first_broken, Dynamic, a_breach}
use Rattle.rbac_decide.proofs.SeparationLemmas.{over_tells}
use Rattle.rbac_decide.proofs.BreachLemmas.{first_broken_is}
use Rattle.rbac_decide.proofs.policy.Policy.breach_by.Goals as goal

pub returns-in-Some : goal.returns-in-Some
returns-in-Some c = λ owner.
    let s = c.args.self.now in
    let active = c.args.active.now in
    let set : Name = c.in-Some.set.now in
    let some : first_broken active s.dynamic_sets ≡ Some set = search rules in
    (sym (over_tells active s.dynamic_sets) ∙ ap is_some some, ap (a_breach Dynamic c.args.session.now) (sym (first_broken_is active s.dynamic_sets set some)))

pub returns-in-None : goal.returns-in-None
returns-in-None c = λ owner.
    let s = c.args.self.now in
    let active = c.args.active.now in
    let none : first_broken active s.dynamic_sets ≡ None = search rules in
    sym (over_tells active s.dynamic_sets) ∙ ap is_some none
