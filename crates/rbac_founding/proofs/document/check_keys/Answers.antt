use Rattle.std.proofs.Common.{◌∙◌, sym, is_some, false, true}
use Rattle.std.proofs.lemmas.List.Folds.{list_all-map}
use Rattle.toml.specs.Data.{get_member}
use Rattle.toml.specs.View.{table_view}
use Rattle.rbac_founding.proofs.FoundingLemmas.{needed_told}
use Rattle.rbac_founding.proofs.document.check_keys.Goals as goal

pub returns-then-not-has_all : goal.returns-then-not-has_all
returns-then-not-has_all c =
    let document = table_view c.args.document.now in
    sym (needed_told _ _ document false (sym c.in_ok-only_keys.ensures) (list_all-map (λ key. is_some (get_member key document)) (λ key. key.now) c.args.needed.now ∙ sym c.if-not-has_all.ensures))

pub returns : goal.returns
returns c =
    let document = table_view c.args.document.now in
    sym (needed_told _ _ document true (sym c.in_ok-only_keys.ensures) (list_all-map (λ key. is_some (get_member key document)) (λ key. key.now) c.args.needed.now ∙ sym c.if-not-has_all.ensures))
