use Rattle.std.proofs.Common.{◌≡◌, ◌≤◌, length, take, vec_len, vec_capacity}
use Rattle.rbac_words.specs.Play.{world_after, outcomes}
use Rattle.rbac_world.proofs.playing.play.Given as goal

-- the events so far were played, and there is room for the outcomes of the others
abbrev pub invariant-loop-done : goal.invariant-loop-done
invariant-loop-done l =
    (l.world ≡ world_after l.fn.world (take l.done l.events)) × (l.outcomes.items ≡ outcomes l.fn.world (take l.done l.events)) × (vec_len l.outcomes ≡ l.done) × (length l.events ≤ vec_capacity l.outcomes)
