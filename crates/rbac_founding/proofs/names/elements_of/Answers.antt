use Rattle.std.proofs.Common.{◌≡◌, ◌∙◌, ◌++◌, ◌+◌, rules, ◌∷◌, [], Ok, Err, drop, map, ap, sym}
use Rattle.std.proofs.lemmas.Result.{err_from_is_err_and}
use Rattle.rbac_founding.proofs.FoundingLemmas.{read_from, read_from_next}
use Rattle.rbac_founding.proofs.names.elements_of.Goals as goal

pub returns-in_err-element : goal.returns-in_err-element
returns-in_err-element g c =
    let next = read_from_next g.E.Element.is_formed g.E.Element.shown c.loop-value.elements.items c.args.values.now c.loop-value.value-index c.value-item.result (Err c.in_err-element.field-0.0) c.loop-value-test.true c.value-item.is in
    let left = err_from_is_err_and c.from_residual.result c.from_residual.ensures.1 in
    rw (left.1, left.2) (λ memory. c.loop-value.invariant ∙ next (c.in_err-element.ensures memory))

pub loop-value-preserved : goal.loop-value-preserved
loop-value-preserved g c =
    let i = c.loop-value.value-index in
    let values = c.args.values.now in
    let next = read_from_next g.E.Element.is_formed g.E.Element.shown c.loop-value.elements.items values i c.value-item.result (Ok c.in_ok-element.element) c.loop-value-test.true c.value-item.is c.in_ok-element.ensures in
    let is : c.push.new.self.items ≡ c.loop-value.elements.items ++ c.in_ok-element.element ∷ [] = search rules in
    c.loop-value.invariant ∙ next ∙ ap (λ read. read_from g.E.Element.is_formed read (map g.E.Element.shown (drop (i + 1) values))) (sym is)
