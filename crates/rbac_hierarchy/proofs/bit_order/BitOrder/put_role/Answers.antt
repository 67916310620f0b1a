use Rattle.std.proofs.Common.{◌≡◌, ◌++◌, ◌∷◌, [], false, ap, sym, ◌∙◌, subst}
use Rattle.rbac_terms.specs.Name.{name_cmp}
use Rattle.sorted_keys.specs.Keys.{has}
use Rattle.rbac_hierarchy.specs.Numbers.{roles_of, IsExact}
use Rattle.rbac_hierarchy.proofs.ExactLemmas.{exact_added, names_then, role_there, roles_then}
use Rattle.rbac_hierarchy.proofs.NumberLemmas.{role_found, role_missing}
use Rattle.rbac_hierarchy.proofs.bit_order.BitOrder.put_role.Goals as goal

pub returns-then-is_some-clause-content : goal.returns-then-is_some-clause-content
returns-then-is_some-clause-content c =
    let names = c.self.inside.numbers.keys in
    let there = role_there names c.args.role (role_found names c.args.role c.number_of.result (sym c.is_some.ensures ∙ c.if-is_some.true) c.number_of.ensures.numbered) in
    rw (← ap (λ h. h.content) c.self.view_is) (λ i. record { roles = there i; declared = c.self.inside.declared.content })

absent : (c : goal.After-unwrap) → has name_cmp c.args.role c.self.inside.numbers.keys ≡ false
absent c = role_missing c.self.inside.numbers.keys c.args.role c.number_of.result (sym c.is_some.ensures ∙ c.if-is_some.false) c.number_of.ensures.absent

put_last : (c : goal.After-unwrap) → c.insert_full.new.self.keys ≡ c.self.inside.numbers.keys ++ c.args.role ∷ []
put_last c = names_then c.self.inside.numbers.keys c.insert_full.new.self.keys c.args.role (absent c) (rw c.unwrap.ensures at c.insert_full.ensures.keys)

pub invariant_of-self : goal.invariant_of-self
invariant_of-self c =
    let inside = c.self.inside in
    subst (λ names. IsExact names inside.declared.content c.add_ready.new.self) (sym (put_last c))
    (exact_added inside.numbers.keys c.args.role inside.declared.content inside.inherited c.add_ready.new.self c.self.invariant (absent c) c.invariants.ensures c.add_ready.ensures.longer c.add_ready.ensures.related_to_itself)

pub returns-clause-content : goal.returns-clause-content
returns-clause-content c =
    let roles = ap roles_of (put_last c) ∙ roles_then c.self.inside.numbers.keys c.args.role in
    rw (← ap (λ h. h.content) c.self.view_is) (λ i. record { roles = roles i; declared = c.self.inside.declared.content })
