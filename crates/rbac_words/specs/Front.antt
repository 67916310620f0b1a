-- A history that a member may have.
use Rattle.std.specs.Prelude.{ℕ, ◌≡◌, List, map, ◌==◌, Bool}
use Rattle.std.specs.List.{filter}
use Rattle.rbac_terms.specs.State.{State}
use Rattle.rbac_terms.specs.Replay.{replies}
use Rattle.rbac_words.specs.Stamp.{IsRising}
use Rattle.rbac_words.specs.Message.{submitted_at, commands_of, CountsFrom, is_by}
use Rattle.rbac_terms.specs.declared.command.Command.{Command}
use Rattle.rbac_words.specs.declared.message.Submission.{Submission}
use Rattle.rbac_words.specs.declared.record.Record.{Record}

abbrev pub command_of : Submission → Command
command_of x = x.command

-- whether a command was submitted at this member
abbrev pub is_of : ℕ → Submission → Bool
is_of member x = x.stamp.member == member

-- stamps rise, the answers are those of the commands replayed from the founding state, and each caller of each member
-- has its serials 0, 1, 2 and so on
pub record IsLegalFront (founded : State) (history : List Record) : Type 0 where
  pub rising : IsRising submitted_at (commands_of history)
  pub answered : map (λ (r : Record). r.answer) history ≡ replies founded (map command_of (commands_of history))
  pub serials : (member caller : ℕ) → CountsFrom 0 (filter (is_by caller) (filter (is_of member) (commands_of history)))
