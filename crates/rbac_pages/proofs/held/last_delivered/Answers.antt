use Rattle.std.proofs.Common.{rules, sym, ◌∙◌, ◌-◌, ◌≡◌, length, Some, None}
use Rattle.std.specs.List.{slice_get}
use Rattle.rbac_words.specs.declared.record.Record.{Record}
use Rattle.rbac_pages.proofs.HeldLemmas.{last_is, none_last, last_recorded}
use Rattle.rbac_pages.proofs.held.last_delivered.Goals as goal

pub returns-in-Some : goal.returns-in-Some
returns-in-Some c =
    let history = c.args.history.now in
    let there : slice_get history (length history - 1) ≡ Some c.in-Some.record.now = search rules in
    sym (last_recorded history ∙ last_is (λ (r : Record). r.stamp) history c.in-Some.record.now there)

pub returns-in-None : goal.returns-in-None
returns-in-None c =
    let history = c.args.history.now in
    let there : slice_get history (length history - 1) ≡ None = search rules in
    sym (last_recorded history ∙ none_last (λ (r : Record). r.stamp) history there)
