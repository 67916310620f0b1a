use Rattle.rbac_text.proofs.writing.reviews.put_review_fields.Goals as goal

pub returns-in-RoleOperationsOnObject-clause-text : goal.returns-in-RoleOperationsOnObject-clause-text
returns-in-RoleOperationsOnObject-clause-text c = rw c.in-RoleOperationsOnObject.is c.put_two.ensures.text

pub returns-in-UserOperationsOnObject-clause-text : goal.returns-in-UserOperationsOnObject-clause-text
returns-in-UserOperationsOnObject-clause-text c = rw c.in-UserOperationsOnObject.is c.put_two-in-UserOperationsOnObject.ensures.text
