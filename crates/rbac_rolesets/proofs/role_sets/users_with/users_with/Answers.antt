use Rattle.std.proofs.Common.{arith, true, false, [], ◌∷◌, ◌++◌, ap, sym, ◌∙◌}
use Rattle.std.specs.Ordering.{is_eq}
use Rattle.rbac_rolesets.proofs.UsersWalk.{passed_over, looked_for, all_found}
use Rattle.rbac_rolesets.proofs.role_sets.users_with.users_with.Goals.{then-is_eq+then-sought+in_ok-duplicate+in_ok-push, then-is_eq+else-sought, else-is_eq}
use Rattle.rbac_rolesets.proofs.role_sets.users_with.users_with.Goals as goal

pub loop-pair-preserved : goal.loop-pair-preserved
loop-pair-preserved c =
    let role = c.args.role.now in
    let users = c.args.users.now in
    let pairs = c.args.pairs.now in
    let found = c.loop-pair.found.items in
    let asked = ap is_eq (sym c.cmp.ensures) ∙ sym c.is_eq.ensures in
    let over = passed_over role users pairs c.loop-pair.pair-index found c.loop-pair.ahead.now c.pair-item.result c.loop-pair-test.true c.pair-item.is c.loop-pair.invariant
    c.if-is_eq.found.items c.if-is_eq.ahead.now in
    let looked = looked_for role users pairs c.loop-pair.pair-index found c.loop-pair.ahead.now c.pair-item.result c.loop-pair-test.true c.pair-item.is c.loop-pair.invariant
    c.if-is_eq.found.items c.if-is_eq.ahead.now in
    elim c.if-is_eq.branch [
      | then-is_eq+then-sought+in_ok-duplicate+in_ok-push w ↦ looked true (asked ∙ w.if-is_eq.true) (sym w.seek-sought.ensures.is_there ∙ w.if-sought.true)
          (ap (λ ahead. ahead.now) w.ahead-is ∙ w.seek-sought.ensures.later)
          (ap (λ more. more.items) w.found-is ∙ w.in_ok-push.ensures.items ∙ ap (λ user. found ++ user ∷ []) w.in_ok-duplicate.ensures)
      | then-is_eq+else-sought w ↦ looked false (asked ∙ w.if-is_eq.true) (sym w.seek-sought.ensures.is_there ∙ w.if-sought.false)
          (ap (λ ahead. ahead.now) w.ahead-is ∙ w.seek-sought.ensures.later)
          (ap (λ more. more.items) w.found-is)
      | else-is_eq w ↦ over (asked ∙ w.if-is_eq.false) (ap (λ ahead. ahead.now) w.ahead-is) (ap (λ more. more.items) w.found-is)
    ]

pub returns : goal.returns
returns c =
    c.shrink_to_fit.ensures.items
    ∙ sym (all_found c.args.role.now c.args.users.now c.args.pairs.now c.loop-pair.pair-index c.loop-pair.found.items c.loop-pair.ahead.now (omega (arith, c.loop-pair-test.false)) c.loop-pair.invariant)
