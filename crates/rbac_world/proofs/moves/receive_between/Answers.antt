use Rattle.std.proofs.Common.{arith, ◌≡◌}
use Rattle.rbac_world.proofs.PlaceLemmas.{moved_in_front, moved_in_back}
use Rattle.rbac_world.proofs.moves.receive_between.Goals as goal

pub returns-then-place-from : goal.returns-then-place-from
returns-then-place-from c =
    let parts = c.split_at_mut-front.ensures in
    moved_in_front c.args.members.now c.split_at_mut-front.result.0.now c.split_at_mut-front.result.1.now c.args.place c.args.from c.args.number
    c.index-front-place.result c.index-back-0.result c.receive.result c.receive.new.receiver parts.value (omega (arith, parts.front_len)) parts.front_len (omega (arith, parts.back_len, c.requires.from)) c.receive.ensures

pub returns-else-place-from : goal.returns-else-place-from
returns-else-place-from c =
    let parts = c.split_at_mut-front-else-place-from.ensures in
    moved_in_back c.args.members.now c.split_at_mut-front-else-place-from.result.0.now c.split_at_mut-front-else-place-from.result.1.now c.args.place c.args.from c.args.number
    c.index-back-0-else-place-from.result c.index-front-from.result c.receive-else-place-from.result c.receive-else-place-from.new.receiver parts.value
    (let ne : c.args.place ≡ c.args.from → ⊥ = c.requires.other in omega (arith, parts.front_len)) parts.front_len (omega (arith, parts.back_len, c.requires.at)) c.receive-else-place-from.ensures
