use Rattle.std.proofs.Common.{◌≡◌, ◌++◌, refl, sym, ap, ◌∙◌}
use Rattle.std.specs.Prelude.{codes}
use Rattle.rbac_terms.specs.Name.{Name}
use Rattle.rbac_terms.specs.declared.answer.Denial.{Denial}
use Rattle.rbac_terms.specs.declared.answer.Denial.TheVariants as denial
use Rattle.rbac_pages.specs.HindranceText.{named, words_of, pair_text}
use Rattle.rbac_pages.proofs.TextLemmas.{ok_then}
use Rattle.rbac_pages.proofs.hindering.put_pair.Goals as goal

other : (d : Denial) (ascendant descendant : Name) → (d ≡ denial.Cycle → ⊥) → (d ≡ denial.Limited → ⊥) → pair_text d ascendant descendant ≡ named (codes "role ") ascendant ++ named (words_of d) descendant
other denial.Cycle ascendant descendant cycle limited = absurd (cycle refl)
other denial.Limited ascendant descendant cycle limited = absurd (limited refl)
other d ascendant descendant cycle limited = refl

pub returns-in_default : goal.returns-in_default
returns-in_default c =
    let both = ap (λ words. named (codes "role ") c.args.ascendant.now ++ named words c.args.descendant.now) c.words_of-words.ensures in
    let told = both ∙ sym (other c.args.denial c.args.ascendant.now c.args.descendant.now c.in_default.not-Cycle c.in_default.not-Limited) in
    ok_then c.put_both.result _ _ _ c.put_both.ensures (ap (λ l. c.args.text.now.items ++ l) told)
