-- What is right of a world's histories, and the founding world.
use Rattle.std.specs.Prelude.{ℕ, zero, suc, ◌≡◌, ◌<◌, List, [], ◌∷◌, map, length, replicate, slice_index_or}
use Rattle.std.specs.List.{flat_map}
use Rattle.rbac_terms.specs.Vocabulary.{Vocabulary}
use Rattle.rbac_words.specs.Group.{Group}
use Rattle.rbac_terms.specs.State.{founding_state}
use Rattle.rbac_terms.specs.Replay.{replies}
use Rattle.rbac_words.specs.Stamp.{sort_by_stamp, last_stamp, up_to}
use Rattle.rbac_words.specs.Message.{submitted_at, submissions, commands_of}
use Rattle.rbac_words.specs.Front.{command_of}
use Rattle.rbac_words.specs.World.{Node, World, nobody}
use Rattle.rbac_words.specs.declared.message.Submission.{Submission}
use Rattle.rbac_words.specs.declared.record.Record.{Record}

-- all commands submitted anywhere, in stamp order
abbrev pub all_commands : World → List Submission
all_commands w = sort_by_stamp submitted_at (flat_map (λ (v : Node). submissions v.sent) w.nodes)

-- the history is all commands submitted anywhere up to its last stamp, in stamp order, each with the answer that the
-- commands of smaller stamp give
pub record IsRight (w : World) (v : Node) : Type 0 where
  pub delivered : commands_of v.history ≡ up_to submitted_at (last_stamp submitted_at (commands_of v.history)) (all_commands w)
  pub answered : map (λ (r : Record). r.answer) v.history ≡ replies (founding_state w.vocabulary) (map command_of (commands_of v.history))

-- each history is right
abbrev pub AreHistoriesRight : World → Type 0
AreHistoriesRight w = (i : ℕ) → i < length w.nodes → IsRight w (slice_index_or w.nodes i nobody)

-- so many members, numbered from n + 1 on, each at the starting clock, with nothing sent, read or delivered
abbrev pub founded_nodes : ℕ → ℕ → Group → List Node
founded_nodes zero n group = []
founded_nodes (suc more) n group =
    record { number = suc n; clock = group.clock; sent = []; read = replicate group.members 0; history = [] } ∷ founded_nodes more (suc n) group

abbrev pub founding_world : Group → Vocabulary → World
founding_world group vocabulary = record { group = group; vocabulary = vocabulary; nodes = founded_nodes group.members 0 group }
