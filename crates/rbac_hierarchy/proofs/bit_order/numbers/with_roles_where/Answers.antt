use Rattle.std.proofs.Common.{◌≡◌, ◌/◌, ap, sym, ◌∙◌, arith}
use Rattle.sorted_keys.specs.Keys.{has}
use Rattle.rbac_terms.specs.Name.{name_cmp}
use Rattle.rbac_hierarchy.specs.Numbers.{role_at}
use Rattle.rbac_hierarchy.proofs.GatherLemmas.{gather_passed, gather_failed, gather_failed_all}
use Rattle.rbac_hierarchy.proofs.NumberLemmas.{any_role_at}
use Rattle.rbac_hierarchy.proofs.bit_order.numbers.with_roles_where.Goals as goal
use Rattle.rbac_hierarchy.proofs.bit_order.numbers.with_roles_where.Goals.{then-test+in_ok-add_copy, else-test}

pub loop-number-preserved-then-passes_none : goal.loop-number-preserved-then-passes_none
loop-number-preserved-then-passes_none g c = λ p same r.
    let roles = c.args.roles.now in
    let at = c.loop-number.number in
    gather_failed_all c.args.names roles p at 64
    (λ i from below lt.
    let of_word : i / 64 ≡ at / 64 = omega (arith, c.if-number-eq0.true, from, below) in
    sym (same i lt) ∙ c.passes_none.ensures c.if-passes_none.true i (role_at roles i) of_word)
    c.loop-number.more r (c.loop-number.invariant p same r)

pub loop-number-preserved : goal.loop-number-preserved
loop-number-preserved g c =
    let roles = c.args.roles.now in
    let at = c.loop-number.number in
    let lt = c.loop-number-test.true in
    let item : c.index-roles-number.result ≡ role_at roles at = c.index-roles-number.is ∙ any_role_at roles at _ lt in
    let tested : g.T.NumberedTest.passes c.args.test.now at (role_at roles at) ≡ c.test.result = ap (g.T.NumberedTest.passes c.args.test.now at) (sym item) ∙ sym c.test.ensures in
    elim c.if-test.branch [
      | then-test+in_ok-add_copy w ↦ λ p same r.
          ap (has name_cmp r) (w.more-is ∙ rw item at w.in_ok-add_copy.ensures.added)
          ∙ gather_passed c.args.names roles p at lt (sym (same at lt) ∙ tested ∙ w.if-test.true) c.loop-number.more r (c.loop-number.invariant p same r)
      | else-test w ↦ λ p same r.
          ap (has name_cmp r) w.more-is
          ∙ gather_failed c.args.names roles p at lt (sym (same at lt) ∙ tested ∙ w.if-test.false) c.loop-number.more r (c.loop-number.invariant p same r)
    ]
