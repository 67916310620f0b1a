use Rattle.std.proofs.Common.{ℕ, ◌<◌, ◌≤◌, ◌∙◌, ◌+◌, List, drop, length, min, rules, sym, ap, arith}
use Rattle.rbac_terms.specs.Name.{Name}
use Rattle.rbac_separation.specs.Numbered.{names_of}
use Rattle.rbac_separation.specs.Counts.{CountChange, numbers_of, with_numbers, row_changes, changes_of}
use Rattle.rbac_separation.proofs.PlanLemmas.{still_placed, one_row_given, all_rows_given}
use Rattle.rbac_separation.proofs.counts.Counts.commit.Goals as goal

pub put_row-requires : goal.put_row-requires
put_row-requires c =
    let in_users : c.loop-k.k < length c.args.plan.users.items = omega (arith, c.loop-k-test.true, c.min-k-end.ensures, c.len.ensures) in
    still_placed _ _ _ _ _ c.loop-k.k _ c.deref.ensures.value c.requires c.loop-k.invariant.places in_users c.index.ensures

pub loop-k-preserved : goal.loop-k-preserved
loop-k-preserved c =
    let sets = names_of c.args.plan.sets.items in
    let users = c.args.plan.users.items in
    let rows = c.args.rows.now in
    let k = c.loop-k.k in
    let in_users : k < length users = omega (arith, c.loop-k-test.true, c.min-k-end.ensures, c.len.ensures) in
    let in_rows : k < length rows = omega (arith, c.loop-k-test.true, c.min-k-end.ensures, c.len.ensures) in
    record {
      places = search rules;
      numbers =
          ap (with_numbers (changes_of sets (names_of (drop (k + 1) users)) (drop (k + 1) rows)))
          (c.put_row.ensures.numbers ∙ ap (λ (ss : List (Name × ℕ)). with_numbers (row_changes (names_of ss) c.index.result.now.0 c.index-rows-k.result) (numbers_of c.loop-k.self)) c.deref.ensures.value)
          ∙ sym (one_row_given sets users rows k _ _ in_users in_rows c.index.ensures c.index-rows-k.is (numbers_of c.loop-k.self))
          ∙ c.loop-k.invariant.numbers;
    }

pub returns : goal.returns
returns c =
    let end : min (length c.args.plan.users.items) (length c.args.rows.now) ≤ c.loop-k.k = omega (arith, c.loop-k-test.false, c.min-k-end.ensures, c.len.ensures) in
    sym (ap (λ (changes : List CountChange). with_numbers changes (numbers_of c.loop-k.self)) (all_rows_given (names_of c.args.plan.sets.items) _ _ c.loop-k.k end)) ∙ c.loop-k.invariant.numbers
