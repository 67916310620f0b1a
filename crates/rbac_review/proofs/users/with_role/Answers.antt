use Rattle.std.proofs.Common.{◌∙◌, ap, sym}
use Rattle.std.specs.Ordering.{eq_by_cmp}
use Rattle.sorted_keys.specs.Keys.{has}
use Rattle.sorted_keys.proofs.Members.{has-with_key}
use Rattle.rbac_terms.specs.Name.{name_cmp}
use Rattle.rbac_terms.proofs.NameLemmas.{names_total}
use Rattle.rbac_review.proofs.ReviewLemmas.{more_where, none_where}
use Rattle.rbac_review.proofs.users.with_role.Goals as goal
use Rattle.rbac_review.proofs.users.with_role.Goals.{then-is_role+in_ok-add_copy, else-is_role}

pub returns : goal.returns
returns c =
    let role = c.args.role.now in
    let names = c.args.names in
    elim c.if-is_role.branch [
      | then-is_role+in_ok-add_copy w ↦ λ r.
          ap (has name_cmp r) (w.more-is ∙ w.in_ok-add_copy.ensures.added) ∙ has-with_key names_total role names r
          ∙ more_where (eq_by_cmp name_cmp r role) (has name_cmp r names) _ (sym c.is_role.ensures ∙ w.if-is_role.true)
      | else-is_role w ↦ λ r.
          ap (has name_cmp r) w.more-is ∙ none_where (eq_by_cmp name_cmp r role) (has name_cmp r names) _ (sym c.is_role.ensures ∙ w.if-is_role.false)
    ]
