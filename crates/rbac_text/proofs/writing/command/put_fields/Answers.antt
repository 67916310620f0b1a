use Rattle.std.proofs.Common.{inl, inr, codes}
use Rattle.rbac_text.specs.Command.{one_name, some_names}
use Rattle.rbac_text.specs.CommandText.{field_text}
use Rattle.rbac_text.proofs.TextLemmas.{third_field}
use Rattle.rbac_text.proofs.writing.command.put_fields.Goals as goal

pub returns-in_ok-put_two-in-CreateSession-clause-text : goal.returns-in_ok-put_two-in-CreateSession-clause-text
returns-in_ok-put_two-in-CreateSession-clause-text c =
    let asked = c.in-CreateSession in
    rw asked.is (third_field field_text c.put_names-in-CreateSession.result c.args.text.now.items c.put_two.new.text.items c.put_names-in-CreateSession.new.text.items
    (codes "user", one_name asked.user) (codes "session", one_name asked.session) (codes "roles", some_names asked.roles)
    c.in_ok-put_two-in-CreateSession.ensures.text c.put_names-in-CreateSession.ensures.text)

pub returns-in-CheckAccess-clause-text : goal.returns-in-CheckAccess-clause-text
returns-in-CheckAccess-clause-text c = rw c.in-CheckAccess.is c.put_three.ensures.text

pub returns-in-AddInheritance-clause-text : goal.returns-in-AddInheritance-clause-text
returns-in-AddInheritance-clause-text c =
    let put = c.put_two-in-AddInheritance.ensures.text in
    elim c.in-AddInheritance.is [ inl e ↦ rw e put | inr (inl e) ↦ rw e put | inr (inr (inl e)) ↦ rw e put | inr (inr (inr e)) ↦ rw e put ]

pub returns-in-GrantPermission-clause-text : goal.returns-in-GrantPermission-clause-text
returns-in-GrantPermission-clause-text c =
    let put = c.put_three-in-GrantPermission.ensures.text in
    elim c.in-GrantPermission.is [ inl e ↦ rw e put | inr e ↦ rw e put ]

pub returns-in-DeleteSession-clause-text : goal.returns-in-DeleteSession-clause-text
returns-in-DeleteSession-clause-text c = rw c.in-DeleteSession.is c.put_two-in-DeleteSession.ensures.text

pub returns-in-AddActiveRole-clause-text : goal.returns-in-AddActiveRole-clause-text
returns-in-AddActiveRole-clause-text c =
    let put = c.put_three-in-AddActiveRole.ensures.text in
    elim c.in-AddActiveRole.is [ inl e ↦ rw e put | inr e ↦ rw e put ]
