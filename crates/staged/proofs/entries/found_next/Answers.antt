use Rattle.std.proofs.Common.{◌≡◌, cond, ap, sym, ◌∙◌}
use Rattle.std.specs.Option.{option_copied, option_or}
use Rattle.std.specs.Ordering.{is_eq, eq_by_cmp}
use Rattle.staged.proofs.EntryLemmas.{find-with_entry}
use Rattle.staged.proofs.entries.found_next.Goals as goal

pub returns : goal.returns
returns g c = λ before found_is.
    let cmp = g.K.Ord.cmp in
    let key = c.args.key.now in
    let step = c.args.step.now in
    let test : c.is_eq.result ≡ eq_by_cmp cmp key step.0 = c.is_eq.ensures ∙ ap is_eq c.cmp.ensures in
    c.newer.ensures
    ∙ ap (λ b. cond b (option_or step.1 (option_copied c.args.found)) (option_copied c.args.found)) test
    ∙ ap (λ o. cond (eq_by_cmp cmp key step.0) (option_or step.1 o) o) found_is
    ∙ sym (find-with_entry cmp g.met.K.Ord.total key step.0 step.1 before)
