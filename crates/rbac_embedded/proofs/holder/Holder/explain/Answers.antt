use Rattle.std.proofs.Common.{rules, Some, Ok, Err, refl}
use Rattle.rbac_embedded.proofs.ExplainingLemmas.{explained, not_explained}
use Rattle.rbac_embedded.specs.declared.status.Status.TheVariants.{EmptyPlace}
use Rattle.rbac_embedded.proofs.holder.Holder.explain.Goals as goal

pub returns-in-Ok-clause-told : goal.returns-in-Ok-clause-told
returns-in-Ok-clause-told c = λ _.
    let told = Ok c.in-Ok.text.items in
    (told, explained c.args.self.now c.in-Some.monitor.value c.args.command.now told (rw c.in-Some.is at c.self.view_is) (rw c.deref.ensures at c.in-Ok.ensures.told), search rules, search rules, search rules)

pub returns-in-Err-clause-told : goal.returns-in-Err-clause-told
returns-in-Err-clause-told c = λ other.
    let told = Err c.in-Err.status in
    (told, explained c.args.self.now c.in-Some.monitor.value c.args.command.now told (rw c.in-Some.is at c.self.view_is) (rw c.deref.ensures at c.in-Err.ensures.refused other), refl, refl, refl)

pub returns-in-None-clause-told : goal.returns-in-None-clause-told
returns-in-None-clause-told c = λ _. (Err EmptyPlace, not_explained c.args.self.now c.args.command.now (rw c.in-None.is at c.self.view_is), refl, refl, refl)
