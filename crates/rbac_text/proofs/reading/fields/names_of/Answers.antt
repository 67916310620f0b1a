use Rattle.std.proofs.Common.{◌+◌, ◌∙◌, ap, sym, map, drop, Ok, Err}
use Rattle.std.proofs.lemmas.Result.{err_from_is_err_and}
use Rattle.rbac_text.proofs.ArrayLemmas.{text_of, names_from, names_of_others, names_of_texts, names_from_next, names_from_end}
use Rattle.rbac_text.proofs.reading.fields.names_of.Goals as goal

pub returns-then-not-are_texts : goal.returns-then-not-are_texts
returns-then-not-are_texts c = λ _. names_of_others c.args.array.now c.if-not-are_texts.ensures

pub loop-value-init : goal.loop-value-init
loop-value-init c =
    names_of_texts c.args.array.now c.if-not-are_texts.ensures
    ∙ ap (λ set. names_from set (map text_of c.args.array.now)) (sym c.new-names.ensures)

pub returns-in_err-name : goal.returns-in_err-name
returns-in_err-name c =
    let next = names_from_next c.loop-value.names c.args.array.now c.loop-value.value-index c.value-item.result c.text_of.result.now (Err c.in_err-name.field-0.0) c.loop-value-test.true c.value-item.is c.text_of.ensures in
    let left = err_from_is_err_and c.from_residual.result c.from_residual.ensures.1 in
    rw (left.1, left.2) (λ memory. c.loop-value.invariant ∙ next (c.in_err-name.ensures memory))

pub loop-value-preserved : goal.loop-value-preserved
loop-value-preserved c =
    let next = names_from_next c.loop-value.names c.args.array.now c.loop-value.value-index c.value-item.result c.text_of.result.now (Ok c.in_ok-name.name) c.loop-value-test.true c.value-item.is c.text_of.ensures in
    c.loop-value.invariant
    ∙ next c.in_ok-name.ensures
    ∙ ap (λ set. names_from set (map text_of (drop (c.loop-value.value-index + 1) c.args.array.now))) (sym c.in_ok-add.ensures.added)

pub returns : goal.returns
returns c = c.loop-value.invariant ∙ names_from_end c.loop-value.names c.args.array.now c.loop-value.value-index c.loop-value-test.false
