-- What is said of a member's lists.
use Rattle.std.specs.Prelude.{◌≡◌, List, [], ◌∷◌, ◌++◌}
use Rattle.rbac_terms.specs.declared.answer.Answer.{Answer}
use Rattle.rbac_words.specs.declared.message.Submission.{Submission}
use Rattle.rbac_words.specs.declared.record.Record.{Record}

-- the first held command is the last of the history now, with this answer
pub record TakesOver (answer : Answer) (held : List Submission) (history : List Record) (held_after : List Submission) (history_after : List Record) : Type 0 where
  pub first : Submission
  pub held_before : held ≡ first ∷ held_after
  pub history_is : history_after ≡ history ++ record { stamp = first.stamp; caller = first.caller; serial = first.serial; command = first.command; answer = answer } ∷ []
