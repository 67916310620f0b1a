use Rattle.std.proofs.Common.{arith}
use Rattle.sorted_keys.proofs.Gathered.{has-set_of}
use Rattle.rbac_terms.proofs.NameLemmas.{pairs_total}
use Rattle.rbac_reasons.specs.Lists.{turned}
use Rattle.rbac_reasons.proofs.ListLemmas.{has_turned, none_twice}
use Rattle.rbac_reasons.proofs.lists.turned_set.Goals as goal

pub unreachable-requires : goal.unreachable-requires
unreachable-requires c = grind (arith, none_twice c.args.declared.now c.requires, c.in_ok-turned_pairs.ensures, c.in-Err.ensures.repeated)

pub returns : goal.returns
returns c = λ pair.
    let there = has-set_of pairs_total c.in_ok-turned_pairs.field-0.items pair in
    grind (arith, there, c.in-Ok.ensures.content, c.in_ok-turned_pairs.ensures, has_turned (turned pair) c.args.declared.now)
