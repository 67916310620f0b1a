use Rattle.std.proofs.Common.{refl}
use Rattle.rbac_terms.specs.Rows.{first_denial}
use Rattle.rbac_terms.specs.declared.command.Command.TheVariants.{CheckAccess}
use Rattle.rbac_embedded.proofs.ExplainingLemmas.{ok_with, granted_unless}
use Rattle.rbac_embedded.proofs.explaining.check_text.Goals as goal

pub returns-in-Some : goal.returns-in-Some
returns-in-Some c = λ none.
    let session = c.args.session.now in
    let operation = c.args.operation.now in
    let object = c.args.object.now in
    ok_with c.granted_text.result _ _
    (λ text told. granted_unless (first_denial (CheckAccess session operation object) c.args.policy.now) c.args.policy.now session operation object c.in-Some.found text.items
    none ((rw c.in-Some.is at c.in_ok-found.ensures.granted).0 refl) (rw c.in-Some.is at c.in_ok-found.ensures.reason) told) c.granted_text.ensures
