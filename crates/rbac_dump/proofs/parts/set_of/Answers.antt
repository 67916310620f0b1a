use Rattle.std.proofs.Common.{◌∙◌, sym, true≢false}
use Rattle.std.proofs.lemmas.List.Sorted.{IsPermutation-refl}
use Rattle.sorted_keys.proofs.Gathered.{set_of-sorted, unrepeated_if_sorted}
use Rattle.rbac_terms.proofs.NameLemmas.{names_total}
use Rattle.rbac_dump.proofs.parts.set_of.Goals as goal

pub unreachable-requires : goal.unreachable-requires
unreachable-requires c =
    let names = c.args.names.items in
    true≢false (sym c.in_default.ensures.repeated ∙ unrepeated_if_sorted names_total names names (IsPermutation-refl names) c.requires)

pub returns : goal.returns
returns c = c.of.ensures ∙ c.in-Ok.ensures.content ∙ set_of-sorted names_total c.args.names.items c.requires
