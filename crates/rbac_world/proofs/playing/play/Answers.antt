use Rattle.std.proofs.Common.{arith, ◌≡◌, ◌≤◌, ◌∙◌, length, vec_len, vec_capacity}
use Rattle.rbac_world.proofs.PlayLemmas.{one_more}
use Rattle.rbac_world.proofs.playing.play.Goals as goal

pub loop-done-preserved : goal.loop-done-preserved
loop-done-preserved c =
    let so_far = c.loop-done.invariant in
    let played = one_more c.args.world.now c.loop-done.world c.step-outcome.new.self c.args.events.now c.loop-done.done c.index-events-done.result c.loop-done.outcomes.items c.step-outcome.result
    so_far.0 so_far.1 c.loop-done-test.true c.index-events-done.is c.step-outcome.ensures (c.is_starved.ensures.served c.if-is_starved.false) in (
      played.world,
      c.in-Ok.ensures.items ∙ played.answers,
      (let a : vec_len c.loop-done.outcomes ≡ c.loop-done.done = so_far.2 in omega (arith, c.in-Ok.ensures.len)),
      (let a : length c.args.events.now ≤ vec_capacity c.loop-done.outcomes = so_far.3 in omega (arith, c.in-Ok.ensures.capacity)),
    )
