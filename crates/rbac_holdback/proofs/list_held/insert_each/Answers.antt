use Rattle.std.proofs.Common.{◌≡◌, ◌+◌, ◌∙◌, ◌∷◌, length, sym, ap, subst, arith}
use Rattle.std.specs.Vec.Iter.{into_iter_items}
use Rattle.rbac_words.specs.Message.{submitted_at}
use Rattle.rbac_words.specs.Stamp.{IsRising, insert_all}
use Rattle.rbac_holdback.specs.Holdback.{AreAboveOwn}
use Rattle.rbac_holdback.proofs.PlaceLemmas.{Rising-put}
use Rattle.rbac_holdback.proofs.list_held.insert_each.Goals as goal

pub loop-item-preserved : goal.loop-item-preserved
loop-item-preserved c =
    let x = c.in-Some.item in
    let old = c.loop-item.list.items in
    let to_do = into_iter_items c.loop-item.item-iterator in
    let rest = into_iter_items c.next.new.self in
    let taken : to_do ≡ x ∷ rest = c.in-Some.ensures.steps.0 in
    let fewer : length to_do ≡ length rest + 1 = ap length taken ∙ omega arith in
    let was = c.loop-item.invariant.room in
    let left = c.insert.ensures.room in
    let above : AreAboveOwn (x ∷ rest) old = subst (λ xs. AreAboveOwn xs old) taken c.loop-item.invariant.above in
    let inserted = c.in-Ok.ensures.inserted in
    record {
      rising = subst (IsRising submitted_at) (sym inserted) (Rising-put submitted_at x old c.loop-item.invariant.rising above.0);
      above = subst (AreAboveOwn rest) (sym inserted) above.1;
      room = omega arith;
      put = ap (insert_all submitted_at rest) inserted ∙ ap (λ xs. insert_all submitted_at xs old) (sym taken) ∙ c.loop-item.invariant.put;
    }
