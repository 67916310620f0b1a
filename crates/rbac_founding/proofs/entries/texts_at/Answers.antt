use Rattle.std.proofs.Common.{[]}
use Rattle.toml.specs.Data.{get_member, as_str}
use Rattle.toml.specs.View.{table_view}
use Rattle.rbac_founding.proofs.FoundingLemmas.{kinds_at}
use Rattle.rbac_founding.proofs.entries.texts_at.Goals as goal

pub returns : goal.returns
returns c =
    kinds_at as_str [] (get_member c.args.key.now (table_view c.args.document.now)) c.in_ok-array.array.now c.are_texts.result c.all_of_kind.result c.in_ok-array.ensures
    c.are_texts.ensures c.all_of_kind.ensures
