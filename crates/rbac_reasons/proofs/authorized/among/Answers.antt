use Rattle.std.proofs.Common.{◌||◌, Bool, arith}
use Rattle.std.proofs.lemmas.List.{take_all}
use Rattle.sorted_keys.specs.Keys.{has}
use Rattle.rbac_terms.specs.Name.{Name, name_cmp}
use Rattle.rbac_reasons.proofs.MemberLemmas.{kept_more, kept_whole}
use Rattle.rbac_reasons.proofs.authorized.among.Goals as goal

pub loop-name-preserved : goal.loop-name-preserved
loop-name-preserved c = λ q.
    kept_more (λ name. has name_cmp name c.args.these.now || has name_cmp name c.args.those.now) c.names-name-items.result.now c.loop-name.name-index c.name-item.result c.loop-name.kept _
    c.loop-name-test.true c.name-item.is (grind arith) q (c.loop-name.invariant q)

pub returns : goal.returns
returns c =
    let test : Name → Bool = λ name. has name_cmp name c.args.these.now || has name_cmp name c.args.those.now in
    let whole = take_all c.loop-name.name-index c.names-name-items.result.now c.loop-name-test.false in
    kept_whole test c.args.names.now c.loop-name.kept c.names-name-items.ensures.in_order c.names-in_order.ensures.in_order
    (λ q. grind (arith, c.loop-name.invariant q, whole, c.names-name-items.ensures.names))
