use Rattle.std.proofs.Common.{[], ◌∷◌, ◌++◌, sym, subst, ◌∙◌}
use Rattle.rbac_telling.specs.Leading.{IsLed}
use Rattle.rbac_telling.proofs.LeadingLemmas.{both_ok, goes_on}
use Rattle.rbac_telling.proofs.leading.Way.go.Goals as goal

pub returns-in-Ok : goal.returns-in-Ok
returns-in-Ok c = λ s led.
    let old = c.args.self.now in
    both_ok c.keep.result c.keep.ensures.kept c.keep.ensures.policy (λ kept policy.
    subst (λ commands. IsLed s commands c.keep.new.self.policy) (sym kept)
    (subst (IsLed s (old.commands.items ++ c.args.command ∷ [])) (sym (policy ∙ c.in-Ok.ensures.effect))
    (goes_on s old.policy old.commands.items c.args.command led c.in-Ok.ensures.done)))
