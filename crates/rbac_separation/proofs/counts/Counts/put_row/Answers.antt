use Rattle.std.proofs.Common.{◌≤◌, ◌∙◌, List, length, min, sym, ap, arith}
use Rattle.rbac_separation.specs.Counts.{CountChange, numbers_of, with_numbers}
use Rattle.rbac_separation.proofs.PlanLemmas.{all_given}
use Rattle.rbac_separation.proofs.counts.Counts.put_row.Goals as goal

pub returns-clause-numbers : goal.returns-clause-numbers
returns-clause-numbers c =
    let sets = c.args.sets.now in
    let row = c.args.row.now in
    let end : min (length sets) (length row) ≤ c.loop-k.k = omega (arith, c.loop-k-test.false, c.min-k-end.ensures, ap length c.numbers-numbers.ensures.numbers) in
    sym (ap (λ (changes : List CountChange). with_numbers changes (numbers_of c.loop-k.self)) (all_given sets c.args.user.now.0 row c.loop-k.k end)) ∙ c.loop-k.invariant.numbers
