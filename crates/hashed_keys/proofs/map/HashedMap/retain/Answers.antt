use Rattle.std.proofs.Common.{rules, suc, ◌≡◌, ◌<◌, ◌-◌, length, sym, ◌∙◌, arith}
use Rattle.hashed_keys.proofs.Listing.{first_of}
use Rattle.hashed_keys.proofs.Walks.{kept_next, dropped_next}
use Rattle.hashed_keys.proofs.map.HashedMap.retain.Goals as goal

pub loop-at-preserved-then-not-passes_at : goal.loop-at-preserved-then-not-passes_at
loop-at-preserved-then-not-passes_at g c =
    let before = c.args.self.now.content in
    let at = c.loop-at.at in
    let passes = g.T.EntryTest.passes c.args.test.now in
    let next : suc (at - 1) ≡ at = search rules in
    let lt : at - 1 < length before = omega (arith, next, c.loop-at.invariant.within) in
    let d = first_of before (at - 1) lt in
    record {
      within = omega (arith, next, c.loop-at.invariant.within);
      content = c.take_at.ensures.content ∙ dropped_next (λ e. passes e.0 e.1) before c.loop-at.self.content (at - 1) at d next lt c.loop-at.invariant.content (sym (c.passes_at.ensures d) ∙ c.if-not-passes_at.true);
      room = omega (arith, c.take_at.ensures.room, c.loop-at.invariant.room);
    }

pub loop-at-preserved : goal.loop-at-preserved
loop-at-preserved g c =
    let before = c.args.self.now.content in
    let at = c.loop-at.at in
    let passes = g.T.EntryTest.passes c.args.test.now in
    let next : suc (at - 1) ≡ at = search rules in
    let lt : at - 1 < length before = omega (arith, next, c.loop-at.invariant.within) in
    let d = first_of before (at - 1) lt in
    record {
      within = omega (arith, next, c.loop-at.invariant.within);
      content = kept_next (λ e. passes e.0 e.1) before c.loop-at.self.content (at - 1) at d next lt c.loop-at.invariant.content (sym (c.passes_at.ensures d) ∙ c.if-not-passes_at.false);
      room = c.loop-at.invariant.room;
    }
