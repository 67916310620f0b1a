-- A world after a list of events, and what is read to the end.
use Rattle.std.specs.Prelude.{ℕ, ◌≡◌, ◌≢◌, ◌+◌, ◌<◌, List, [], ◌∷◌, ◌++◌, Result, length, slice_index_or}
use Rattle.rbac_words.specs.World.{World, nobody, read_of, step, step_outcome}
use Rattle.rbac_words.specs.declared.event.Event.{Event}
use Rattle.rbac_words.specs.declared.event.Outcome.{Outcome}
use Rattle.rbac_words.specs.declared.event.Refusal.{Refusal}

-- the world after these events, one after the other
abbrev pub world_after : World → List Event → World
world_after w [] = w
world_after w (e ∷ es) = world_after (step w e) es

-- what these events answer
abbrev pub outcomes : World → List Event → List (Result Outcome Refusal)
outcomes w [] = []
outcomes w (e ∷ es) = step_outcome w e ∷ outcomes (step w e) es

-- each member has read all that each other one sent
abbrev pub IsReadToEnd : World → Type 0
IsReadToEnd w =
    (i j : ℕ) → i < length w.nodes → j < length w.nodes → i ≢ j → read_of (slice_index_or w.nodes i nobody) (j + 1) ≡ length (slice_index_or w.nodes j nobody).sent

-- the second list goes on where the first one ends
abbrev pub IsPrefixOf : {X : Type 0} → List X → List X → Type 0
IsPrefixOf {X} xs ys = (more : List X) × (xs ++ more ≡ ys)
