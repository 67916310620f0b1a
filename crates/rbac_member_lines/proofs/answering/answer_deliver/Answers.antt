use Rattle.std.proofs.Common.{◌≡◌, ◌++◌, ◌∙◌, ap, sym, get_or, List, ℕ}
use Rattle.rbac_words.specs.Keeping.Member.{due_at}
use Rattle.rbac_member_lines.proofs.DeliveryLemmas.{delivered_is, then}
use Rattle.rbac_member_lines.proofs.answering.answer_deliver.Goals as goal

pub returns-in-Some-get-clause-text : goal.returns-in-Some-get-clause-text
returns-in-Some-get-clause-text c =
    then c.put_delivered.result _ _ _ c.put_delivered.ensures
    (ap (λ (own : List ℕ). c.args.text.now.items ++ own)
    (delivered_is c.args.line c.args.member.now c.deliver.new.self (due_at c.args.member.now) c.in-Some.place c.in-Some-get.record.now
    (sym c.in-Some.is ∙ c.in_ok-place.ensures.place) c.in_ok-place.ensures.delivered (c.in-Some-get.ensures.lookup.1 ∙ ap (λ h. get_or h c.in-Some.place c.in-Some-get.record.now) c.history.ensures)))
