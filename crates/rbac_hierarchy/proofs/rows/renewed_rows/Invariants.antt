use Rattle.std.proofs.Common.{◌≡◌, map, take}
use Rattle.rbac_terms.specs.Inheritance.{juniors}
use Rattle.rbac_hierarchy.specs.Rows.{roles_in}
use Rattle.rbac_hierarchy.proofs.rows.renewed_rows.Given as goal

abbrev pub invariant-loop-entry : goal.invariant-loop-entry
invariant-loop-entry l = l.renewed.content ≡ map (λ r. (r, juniors (roles_in l.rows.content) l.declared.content r)) (roles_in (take l.entry-index l.entry-items))
