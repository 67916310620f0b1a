-- The founding world.
use Rattle.std.proofs.Common.{ℕ, zero, suc, [], ◌≡◌, refl, get_or}
use Rattle.rbac_terms.specs.Vocabulary.{Vocabulary}
use Rattle.rbac_words.specs.Group.{Group}
use Rattle.rbac_words.specs.World.{World, Node, nobody}
use Rattle.rbac_words.specs.Right.{IsRight, AreHistoriesRight, founded_nodes, founding_world}

-- where nothing was delivered the history is right
right_empty : (w : World) (v : Node) → v.history ≡ [] → IsRight w v
right_empty w v e = record { delivered = rw e refl; answered = rw e refl }

founded_empty : (more n : ℕ) (group : Group) (i : ℕ) → (get_or (founded_nodes more n group) i nobody).history ≡ []
founded_empty zero n group i = refl
founded_empty (suc more) n group zero = refl
founded_empty (suc more) n group (suc i) = founded_empty more (suc n) group i

pub founding_right : (group : Group) (vocabulary : Vocabulary) → AreHistoriesRight (founding_world group vocabulary)
founding_right group vocabulary i h = right_empty (founding_world group vocabulary) _ (founded_empty group.members 0 group i)
