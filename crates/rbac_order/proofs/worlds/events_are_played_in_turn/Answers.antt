use Rattle.rbac_order.proofs.PlayLemmas.{world_after-append, outcomes-append, length-outcomes}
use Rattle.rbac_order.proofs.worlds.events_are_played_in_turn.Goals as goal

pub returns : goal.returns
returns c = record { world = world_after-append; outcomes = outcomes-append; count = length-outcomes }
