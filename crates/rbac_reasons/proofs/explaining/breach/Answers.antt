use Rattle.std.proofs.Common.{rules, ◌≡◌, ◌||◌, Bool, true, Some, sym, ap, ◌∙◌, subst}
use Rattle.std.specs.FinMap.Entries.{find}
use Rattle.std.specs.List.{filter}
use Rattle.sorted_keys.specs.Keys.{has}
use Rattle.rbac_terms.specs.Name.{Name, name_cmp}
use Rattle.rbac_terms.specs.Separation.{RoleSet, is_broken_by}
use Rattle.rbac_terms.specs.Constraints.{sets_of}
use Rattle.rbac_terms.specs.Change.{change}
use Rattle.rbac_reasons.specs.After.{gained}
use Rattle.rbac_reasons.specs.Explanation.{holds}
use Rattle.rbac_reasons.proofs.ExplanationLemmas.{told_breach}
use Rattle.rbac_reasons.proofs.explaining.breach.Goals as goal

pub returns : goal.returns
returns c =
    let s = c.args.policy.now in
    let after = change c.args.command.now s in
    let x : RoleSet = c.in-Some.set in
    let breach = told_breach s c.invariants.ensures c.args.kind c.args.holder.now c.args.set.now c.args.command.now c.requires.0 c.requires.1 in
    let found : find name_cmp c.args.set.now (sets_of c.args.kind after) ≡ Some x = breach.makes ∙ sym c.in_ok-set.ensures ∙ c.in-Some.is in
    let both : Some x ≡ Some breach.broken.role_set = sym found ∙ breach.broken.found in
    let same : x ≡ breach.broken.role_set = cc in
    let test : Name → Bool = λ name. has name_cmp name c.in_ok-gained.gained || has name_cmp name c.in_ok-held.held in
    let tests : ◌≡◌ {A = Name → Bool} test (holds c.args.kind after c.args.holder.now) = λ i name.
    (ap (λ names. has name_cmp name names || has name_cmp name c.in_ok-held.held) c.in_ok-gained.ensures ∙ ap (λ b. has name_cmp name (gained c.args.command.now s) || b) (c.in_ok-held.ensures name) ∙ sym (breach.gains name)) i in
    let roles : c.in_ok-among-in-Some.field-0 ≡ filter test x.roles = search rules in (
      x,
      found,
      search rules,
      breach.broken.there,
      subst (λ (y : RoleSet). is_broken_by (holds c.args.kind after c.args.holder.now) y ≡ true) (sym same) breach.broken.broken,
      roles ∙ ap (λ p. filter p x.roles) tests,
    )

pub unreachable-requires : goal.unreachable-requires
unreachable-requires c =
    let breach = told_breach c.args.policy.now c.invariants.ensures c.args.kind c.args.holder.now c.args.set.now c.args.command.now c.requires.0 c.requires.1 in
    let none = breach.makes ∙ sym c.in_ok-set.ensures ∙ c.in-None.is in
    let both = sym none ∙ breach.broken.found in
    cc
