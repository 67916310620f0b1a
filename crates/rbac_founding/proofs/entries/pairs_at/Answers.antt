use Rattle.std.proofs.Common.{[]}
use Rattle.toml.specs.Data.{get_member}
use Rattle.toml.specs.View.{table_view}
use Rattle.rbac_founding.specs.FoundingFile.{as_permission}
use Rattle.rbac_founding.proofs.FoundingLemmas.{kinds_at}
use Rattle.rbac_founding.proofs.entries.pairs_at.Goals as goal

pub returns : goal.returns
returns c =
    kinds_at as_permission ([], []) (get_member c.args.key.now (table_view c.args.document.now)) c.in_ok-array.array.now c.are_pairs.result c.all_of_kind.result c.in_ok-array.ensures
    c.are_pairs.ensures c.all_of_kind.ensures
