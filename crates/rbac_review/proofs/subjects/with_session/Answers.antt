use Rattle.std.proofs.Common.{◌≡◌, ◌||◌, ◌∙◌, ap, sym, true, false}
use Rattle.std.specs.List.{list_any}
use Rattle.std.specs.Ordering.{eq_by_cmp}
use Rattle.sorted_keys.specs.Keys.{has}
use Rattle.sorted_keys.proofs.Members.{has-with_key}
use Rattle.rbac_terms.specs.Name.{Name, name_cmp}
use Rattle.rbac_terms.proofs.NameLemmas.{names_total}
use Rattle.rbac_review.specs.Among.{is_at_work}
use Rattle.rbac_review.proofs.ReviewLemmas.{more_where, none_where}
use Rattle.rbac_review.proofs.subjects.with_session.Goals as goal
use Rattle.rbac_review.proofs.subjects.with_session.Goals.{then-has_one_of+in_ok-add_copy, else-has_one_of}

pub returns : goal.returns
returns c =
    let name = c.args.name.now in
    let names = c.args.names in
    let among = λ (role : Name). has name_cmp role c.args.roles.now.names.keys in
    let told : c.has_one_of.result ≡ is_at_work c.args.roles.now.names.keys c.args.session.now =
    c.has_one_of.ensures ∙ ap (list_any among) (c.names.ensures.names ∙ ap (λ session. session.active) c.session.view_is) in
    elim c.if-has_one_of.branch [
      | then-has_one_of+in_ok-add_copy w ↦ λ (q : Name).
          ap (has name_cmp q) (w.more-is ∙ w.in_ok-add_copy.ensures.added) ∙ has-with_key names_total name names q
          ∙ more_where (eq_by_cmp name_cmp q name) (has name_cmp q names) _ (sym told ∙ w.if-has_one_of.true)
      | else-has_one_of w ↦ λ (q : Name).
          ap (has name_cmp q) w.more-is ∙ none_where (eq_by_cmp name_cmp q name) (has name_cmp q names) _ (sym told ∙ w.if-has_one_of.false)
    ]
