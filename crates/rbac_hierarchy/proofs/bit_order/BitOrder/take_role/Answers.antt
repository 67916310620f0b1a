use Rattle.std.proofs.Common.{◌≡◌, ◌≤◌, length, arith, ap, sym, ◌∙◌, subst, [], ℕ, swap_remove, Option, Some, IfSome, List}
use Rattle.std.proofs.lemmas.Option.{slice_get-get_or}
use Rattle.rbac_terms.specs.Name.{Name, name_cmp}
use Rattle.rbac_terms.specs.Relations.{without_pairs_of}
use Rattle.sorted_keys.specs.Keys.{without}
use Rattle.rbac_hierarchy.specs.Numbers.{roles_of, role_at, IsExact}
use Rattle.rbac_hierarchy.proofs.ExactLemmas.{exact_renewed}
use Rattle.rbac_hierarchy.proofs.GapLemmas.{exact_taken}
use Rattle.rbac_hierarchy.proofs.NumberLemmas.{has_role}
use Rattle.rbac_hierarchy.proofs.PairLemmas.{all_without_absent, fewer, roles_without_absent, still_of_others}
use Rattle.rbac_hierarchy.proofs.RangeLemmas.{ranges_without}
use Rattle.sorted_keys.proofs.Kept.{fewer as not_longer}
use Rattle.rbac_hierarchy.proofs.bit_order.BitOrder.take_role.Goals as goal

pub returns-in_default-clause-content : goal.returns-in_default-clause-content
returns-in_default-clause-content c =
    let inside = c.self.inside in
    let roles = roles_of inside.numbers.keys in
    let absent = has_role inside.numbers.keys c.args.role.now ∙ c.in_default.ensures.absent in
    let same_roles = roles_without_absent roles inside.declared.content c.self.invariant.ranges c.args.role.now absent in
    let same_pairs = all_without_absent roles inside.declared.content c.self.invariant.ranges c.args.role.now absent in
    rw (← ap (λ h. h.content) c.self.view_is) (λ i. record { roles = sym same_roles i; declared = sym same_pairs i })

-- what is there is taken out
out : (names new : List Name) (gap : ℕ) (r : Option Name) → Some (role_at names gap) ≡ r → IfSome r (λ k. new ≡ swap_remove names gap k) → new ≡ swap_remove names gap (role_at names gap)
out names new gap r is taken = subst (λ r. IfSome r (λ k. new ≡ swap_remove names gap k)) (sym is) taken

both : (c : goal.Joined-swap_remove_index) → IsExact c.swap_remove_index.new.self.keys c.retain.new.self.content c.remove.new.self × (roles_of c.swap_remove_index.new.self.keys ≡ without name_cmp c.args.role.now (roles_of c.self.inside.numbers.keys))
both c =
    let inside = c.self.inside in
    let names = inside.numbers.keys in
    let found = c.in-Some.ensures.numbered in
    let gap = c.in-Some.gap in
    let role = c.args.role.now in
    let kept = without_pairs_of role inside.declared.content in
    let renewed = exact_renewed names inside.declared.content kept inside.inherited c.renew.new.inherited gap role c.gather_pairs_above.new.pairs.items c.self.invariant found.0 found.1
    (fewer inside.declared.content _) (still_of_others (roles_of names) inside.declared.content c.self.invariant.ranges role) c.gather_pairs_above.ensures.pairs (rw c.deref.ensures.value at c.renew.ensures.renewed) in
    let out_of = out names c.swap_remove_index.new.self.keys gap c.swap_remove_index.result (sym (slice_get-get_or names gap [] found.0) ∙ sym c.swap_remove_index.ensures.key) c.swap_remove_index.ensures.keys in
    subst (λ pairs. IsExact c.swap_remove_index.new.self.keys pairs c.remove.new.self × (roles_of c.swap_remove_index.new.self.keys ≡ without name_cmp role (roles_of names))) (sym c.retain.ensures.content)
    (exact_taken names gap role (role_at names gap) kept c.renew.new.inherited c.remove.new.self renewed found.0 found.1
    (ranges_without (roles_of names) inside.declared.content role c.self.invariant.ranges).1 c.remove.ensures.count c.remove.ensures.related c.swap_remove_index.new.self.keys out_of)

pub invariant_of-self : goal.invariant_of-self
invariant_of-self c = (both c).0

pub returns-clause-content : goal.returns-clause-content
returns-clause-content c = rw (← ap (λ h. h.content) c.self.view_is) (λ i. record { roles = (both c).1 i; declared = c.retain.ensures.content i })

pub returns-clause-room : goal.returns-clause-room
returns-clause-room c =
    let declared = c.self.inside.declared.content in
    let shorter : length c.retain.new.self.content ≤ length declared = rw c.retain.ensures.content (not_longer _ declared (length declared) (omega arith)) in
    rw (← ap (λ h. h.room) c.self.view_is) (omega (arith, shorter, c.retain.ensures.room, c.renew.ensures.room, c.remove.ensures.room, c.swap_remove_index.ensures.room.0, c.gather_pairs_above.ensures.capacity))
