use Rattle.std.proofs.Common.{◌∙◌, sym, subst, take, drop}
use Rattle.std.proofs.lemmas.List.{take-append-drop}
use Rattle.std.specs.List.Sorted.{IsStrictlySortedBy}
use Rattle.rbac_terms.specs.Name.{name_cmp}
use Rattle.rbac_terms.proofs.NameLemmas.{names_total}
use Rattle.rbac_dump.proofs.Next.{sorted_front}
use Rattle.rbac_dump.proofs.parts.first_roles.Goals as goal

pub set_of-requires : goal.set_of-requires
set_of-requires c =
    let names = c.names.result.now in
    let sorted = subst (IsStrictlySortedBy name_cmp) (sym c.names.ensures.names) c.names.ensures.in_order in
    subst (IsStrictlySortedBy name_cmp) (sym (c.in_ok-first.ensures ∙ c.first_names.ensures))
    (sorted_front names_total (take 2 names) (drop 2 names) (subst (IsStrictlySortedBy name_cmp) (sym (take-append-drop 2 names)) sorted))
