use Rattle.std.proofs.Common.{refl}
use Rattle.rbac_terms.specs.Rows.{first_denial}
use Rattle.rbac_terms.specs.declared.command.Command.TheVariants.{CheckAccess}
use Rattle.rbac_pages.proofs.WhyLemmas.{granted_unless}
use Rattle.rbac_pages.proofs.granting.explain_check.Goals as goal

pub returns-in_ok-text_of-in-Some-clause-text : goal.returns-in_ok-text_of-in-Some-clause-text
returns-in_ok-text_of-in-Some-clause-text c = λ none.
    granted_unless (first_denial (CheckAccess c.args.session.now c.args.operation.now c.args.object.now) c.args.policy.now) c.args.policy.now c.args.session.now c.args.operation.now c.args.object.now
    c.in-Some.found c.in_ok-text_of-in-Some.field-0.items ((rw c.in-Some.is at c.in_ok-found.ensures.granted).0 refl) (rw c.in-Some.is at c.in_ok-found.ensures.reason) c.in_ok-text_of-in-Some.ensures
