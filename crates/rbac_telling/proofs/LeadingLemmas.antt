-- One command more that is done.
use Rattle.std.proofs.Common.{◌≡◌, List, [], ◌∷◌, ◌++◌, Result, Ok, Err, ap, ◌∙◌}
use Rattle.std.specs.Result.{OnOk}
use Rattle.rbac_terms.specs.State.{State}
use Rattle.rbac_terms.specs.Effect.{effect, reply}
use Rattle.rbac_terms.specs.declared.answer.Answer.TheVariants.{Done}
use Rattle.rbac_terms.specs.declared.command.Command.{Command}
use Rattle.rbac_telling.specs.Leading.{IsLed}

pub goes_on : (s t : State) (commands : List Command) (command : Command) → IsLed s commands t → reply command t ≡ Done → IsLed s (commands ++ command ∷ []) (effect command t)
goes_on s t [] command led done = (ap (effect command) led.0, (ap (reply command) led.0 ∙ done, tt))
goes_on s t (first ∷ rest) command led done =
    let later = goes_on (effect first s) t rest command (led.0, led.1.1) done in
    (later.0, (led.1.0, later.1))

-- two facts of an Ok make a third
pub both_ok : {T E : Type 0} {A B P : Type 0} (r : Result T E) → OnOk r A → OnOk r B → (A → B → P) → OnOk r P
both_ok (Ok value) a b so = so a b
both_ok (Err refusal) a b so = tt
