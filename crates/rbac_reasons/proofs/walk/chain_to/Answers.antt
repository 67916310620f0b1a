use Rattle.std.proofs.Common.{refl, sym, ap, ◌∙◌, ◌≡◌, []}
use Rattle.std.specs.Ordering.{is_eq}
use Rattle.std.proofs.lemmas.List.{nil_from_length}
use Rattle.rbac_reasons.proofs.WalkLemmas.{back_by, back_past, back_ends}
use Rattle.rbac_reasons.proofs.walk.chain_to.Goals as goal

pub loop-ascendant-preserved-then-is_eq : goal.loop-ascendant-preserved-then-is_eq
loop-ascendant-preserved-then-is_eq c = λ starts declared trail found.
    let before = rw c.in-Some.ensures.items at (c.loop-ascendant.invariant starts declared trail found) in
    rw (c.replace.ensures.after, c.in_ok-push.ensures.items, c.replace.ensures.value)
    (back_by starts declared _ _ (c.in-Some.ascendant, c.in-Some.descendant) _ _ before (sym (c.is_eq.ensures ∙ ap is_eq c.cmp.ensures) ∙ c.if-is_eq.true))

pub loop-ascendant-preserved : goal.loop-ascendant-preserved
loop-ascendant-preserved c = λ starts declared trail found.
    let before = rw c.in-Some.ensures.items at (c.loop-ascendant.invariant starts declared trail found) in
    back_past starts declared _ _ (c.in-Some.ascendant, c.in-Some.descendant) _ _ before (sym (c.is_eq.ensures ∙ ap is_eq c.cmp.ensures) ∙ c.if-is_eq.false)

pub returns : goal.returns
returns c = λ starts declared trail found.
    let none : c.loop-ascendant.pairs.items ≡ [] = nil_from_length c.loop-ascendant.pairs.items (sym c.loop-ascendant.pairs.ok.0 ∙ c.in_default.ensures.cases.0) in
    back_ends starts declared _ _ _ _ refl c.reverse.ensures.items refl (rw none at (c.loop-ascendant.invariant starts declared trail found))
