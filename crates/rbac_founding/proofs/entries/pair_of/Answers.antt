use Rattle.std.proofs.Common.{sym, arith, rules, ◌≡◌, Some}
use Rattle.toml.specs.Data.{as_array}
use Rattle.toml.specs.View.{view, items_view}
use Rattle.rbac_founding.proofs.FoundingLemmas.{no_pair}
use Rattle.rbac_founding.proofs.entries.pair_of.Goals as goal
use Rattle.rbac_founding.proofs.entries.pair_of.Goals.{in_default-via-then-as_slice-lt2, in_default-via-else-as_slice-lt2+else-this-lt3}

pub returns-in_default : goal.returns-in_default
returns-in_default c =
    let is : as_array (view c.args.value.now) ≡ Some (items_view c.as_slice.result.now) = search rules in
    sym (no_pair c.args.value.now c.as_slice.result.now is (elim c.in_default.branch [
      | in_default-via-then-as_slice-lt2 w ↦ λ two. grind (arith, w)
      | in_default-via-else-as_slice-lt2+else-this-lt3 w ↦ λ two. grind (arith, w)
    ]))
