use Rattle.std.proofs.Common.{rules, ◌<◌, length, ◌∙◌, arith}
use Rattle.hashed_keys.proofs.Listing.{first_of}
use Rattle.hashed_keys.proofs.Walks.{changed_next, changed_within}
use Rattle.hashed_keys.proofs.map.HashedMap.change_each.Goals as goal

pub change_at-requires : goal.change_at-requires
change_at-requires g c =
    let before = c.args.self.now.content in
    let lt : c.loop-at.at < length before = search rules in
    changed_within (λ e. (e.0, g.C.EachChange.changed c.args.change.now e.1)) before c.loop-at.self.content c.loop-at.at lt c.loop-at.invariant.content

pub loop-at-preserved : goal.loop-at-preserved
loop-at-preserved g c =
    let before = c.args.self.now.content in
    let lt : c.loop-at.at < length before = search rules in
    let d = first_of before c.loop-at.at lt in
    record {
      content = c.change_at.ensures.content d ∙ changed_next (λ e. (e.0, g.C.EachChange.changed c.args.change.now e.1)) before c.loop-at.self.content c.loop-at.at d lt c.loop-at.invariant.content;
      room = omega (arith, c.change_at.ensures.room, c.loop-at.invariant.room);
    }
