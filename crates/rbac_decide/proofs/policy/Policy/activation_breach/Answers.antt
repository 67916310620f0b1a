use Rattle.std.proofs.Common.{rules, ◌≡◌, ◌∙◌, List, length, ap, subst}
use Rattle.rbac_decide.proofs.Common.{list_any, with_key, breaks_dynamic, Name, name_cmp, RoleSet, is_broken, Session, Dynamic, Tells, first_entry, a_breach}
use Rattle.rbac_decide.proofs.Common.{nil_from_length}
use Rattle.rbac_decide.proofs.SeparationLemmas.{activated_violated}
use Rattle.rbac_decide.proofs.BreachLemmas.{tells_so, activation_named}
use Rattle.rbac_decide.proofs.policy.Policy.activation_breach.Goals as goal

pub returns-then-len-eq0 : goal.returns-then-len-eq0
returns-then-len-eq0 c =
    let s = c.args.self.now in
    let x : Session = c.args.found.now in
    let role = c.args.role.now in
    let none : length s.dynamic_sets ≡ 0 = search rules in
    activated_violated c.args.user.now c.args.session.now role x s c.invariants.ensures c.requires
    ∙ ap (λ (sets : List (Name × RoleSet)). list_any (λ (e : Name × RoleSet). is_broken (with_key name_cmp role x.active) e.1) sets) (nil_from_length s.dynamic_sets none)

pub returns : goal.returns
returns c =
    let s = c.args.self.now in
    let x : Session = c.args.found.now in
    let user = c.args.user.now in
    let session = c.args.session.now in
    let role = c.args.role.now in
    let act : c.in_ok-active.active ≡ with_key name_cmp role x.active = search rules in
    tells_so _ _ _ _ c.breach_by.result (activated_violated user session role x s c.invariants.ensures c.requires)
    (λ broken. activation_named user session role x s c.invariants.ensures c.requires broken)
    (subst (λ (a : List Name). Tells (breaks_dynamic s (record { owner = x.owner; active = a })) (a_breach Dynamic session (first_entry (is_broken a) s.dynamic_sets)) c.breach_by.result) act (c.breach_by.ensures x.owner))
