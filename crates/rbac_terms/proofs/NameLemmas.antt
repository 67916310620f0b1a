-- The orders of names, pairs and grants are total, and tie only what is equal.
use Rattle.std.specs.Cmp.{IsTotalOrder}
use Rattle.std.proofs.lemmas.Cmp.{nat_list_cmp_total, on_total, then_total}
use Rattle.std.proofs.lemmas.Map.Lookups.{exact_pairs}
use Rattle.std.specs.FinMap.{IsAntisymmetric}
use Rattle.std.specs.FinSet.{slice_cmp-IsAntisymmetric, nat_cmp-IsAntisymmetric}
use Rattle.rbac_terms.specs.Name.{name_cmp, pair_cmp, grant_cmp}

pub names_total : IsTotalOrder name_cmp
names_total = nat_list_cmp_total

pub names_exact : IsAntisymmetric name_cmp
names_exact = slice_cmp-IsAntisymmetric nat_cmp-IsAntisymmetric

pub pairs_total : IsTotalOrder pair_cmp
pairs_total = then_total (on_total (λ p. p.0) names_total) (on_total (λ p. p.1) names_total)

pub pairs_exact : IsAntisymmetric pair_cmp
pairs_exact = exact_pairs name_cmp name_cmp names_exact names_exact

pub grants_total : IsTotalOrder grant_cmp
grants_total = then_total (on_total (λ g. g.0) pairs_total) (on_total (λ g. g.1) names_total)

pub grants_exact : IsAntisymmetric grant_cmp
grants_exact = exact_pairs pair_cmp name_cmp pairs_exact names_exact
